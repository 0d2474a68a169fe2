-- The limits of numbers, and of what a command is told. Source: this project's choice, so that sums of
-- a few numbers stay below 2^64.
use Rattle.std.specs.Prelude.{ℕ, ◌^◌}

-- The entries of a run's vector are at most this.
abbrev pub entry_limit : ℕ
entry_limit = 2 ^ 60

-- The numbers of a certificate, its ends and the entries of its vectors, are below this.
abbrev pub number_limit : ℕ
number_limit = 2 ^ 62

-- Rounds of power iteration. After these each entry is below 2^58, since a round at most triples it.
abbrev pub most_rounds : ℕ
most_rounds = 36

-- turns of a worker, workers, sessions, and readings of a session
abbrev pub most_turns : ℕ
most_turns = 100000

abbrev pub most_workers : ℕ
most_workers = 16

abbrev pub most_sessions : ℕ
most_sessions = 8

abbrev pub most_reads : ℕ
most_reads = 1000

-- the order of a list of angles or of a map
abbrev pub greatest_order : ℕ
greatest_order = 128
