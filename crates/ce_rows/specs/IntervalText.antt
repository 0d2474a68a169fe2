-- How an interval is written. Source: this project's choice.
use Rattle.std.specs.Prelude.{ℕ, List, ◌++◌, codes}
use Rattle.std.specs.Fmt.{decimal}
use Rattle.ce_rows.specs.declared.interval.Interval.{Interval}

-- `low L high H`
abbrev pub interval_text : Interval → List ℕ
interval_text interval = codes "low " ++ decimal interval.low ++ codes " high " ++ decimal interval.high
