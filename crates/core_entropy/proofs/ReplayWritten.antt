-- What was written of a replayed script.
use Rattle.std.proofs.Common.{◌≡◌, ◌<◌, ◌+◌, ◌++◌, ◌∷◌, [], ◌∙◌, ℕ, List, Option, length, take, refl, sym, ap, subst}
use Rattle.std.proofs.Common.{append_assoc}
use Rattle.std.specs.Prelude.{codes, slice_index}
use Rattle.std.specs.Fmt.{decimal}
use Rattle.std.specs.List.{flat_map}
use Rattle.std.proofs.lemmas.List.{take_more}
use Rattle.ce_angle.specs.Fraction.{Fraction}
use Rattle.ce_port.specs.Pieces.{GrewAllBut}
use Rattle.ce_port.specs.Sink.{GrewBy}
use Rattle.ce_port.specs.WriteAll.{GrewByPrefix}
use Rattle.ce_port.proofs.Paging.{page-more, page-part, page-stays, page-whole, prefix-more}
use Rattle.ce_rows.specs.Events.{Shared}
use Rattle.ce_rows.specs.declared.interval.Interval.{Interval}
use Rattle.core_entropy.specs.Angle.{line_of}
use Rattle.core_entropy.specs.Output.{GrewByPart}
use Rattle.core_entropy.specs.Replay.{entries_line, replay_text, shared_interval}
use Rattle.core_entropy.specs.Show.{spaced}
use Rattle.core_entropy.proofs.Rows.{item_more, part_stays, part_turned, so_far}

-- the line of entries, as far as it is on its way
module _ (start : List ℕ) (xs : List ℕ) where
  abbrev word : ℕ → List ℕ
  word x = 32 ∷ decimal x

  abbrev begun : List ℕ
  begun = start ++ codes "entries"

  abbrev pub line_so_far : ℕ → List ℕ
  line_so_far k = start ++ (codes "entries" ++ spaced decimal (take k xs))

  same_so_far : (k : ℕ) → line_so_far k ≡ so_far word xs begun k
  same_so_far k = sym (append_assoc start (codes "entries") (spaced decimal (take k xs)))

  to_line : (begun ++ flat_map word xs) ++ 10 ∷ [] ≡ start ++ entries_line xs
  to_line = append_assoc begun (flat_map word xs) (10 ∷ [])
      ∙ append_assoc start (codes "entries") (flat_map word xs ++ 10 ∷ [])

  line_part : (a b : Option (List ℕ)) → GrewByPrefix a b (begun ++ flat_map word xs)
      → GrewByPrefix a b (start ++ entries_line xs)
  line_part a b part = subst (GrewByPrefix a b) to_line (prefix-more a b (begun ++ flat_map word xs) (10 ∷ []) part)

  pub line_stays : (a b : Option (List ℕ)) (page : List ℕ) (k : ℕ) → GrewAllBut a b page (line_so_far k)
      → GrewByPrefix a b (start ++ entries_line xs)
  line_stays a b page k grew =
      line_part a b (part_stays word xs begun a b page k (subst (GrewAllBut a b page) (same_so_far k) grew))

  module _ (a b c : Option (List ℕ)) (page more next : List ℕ) (k : ℕ) (within : k < length xs)
      (grew : GrewAllBut a b page (line_so_far k)) (put : more ≡ page ++ word (slice_index xs k)) where
    here : GrewAllBut a b page (so_far word xs begun k)
    here = subst (GrewAllBut a b page) (same_so_far k) grew

    pub line_more : GrewAllBut b c next more → GrewAllBut a c next (line_so_far (k + 1))
    line_more turned =
        subst (GrewAllBut a c next) (sym (same_so_far (k + 1)))
        (item_more word xs begun a b c page more next (word (slice_index xs k)) k (slice_index xs k) within here
        (take_more xs k 0 within) refl put turned)

    pub line_turned : GrewByPrefix b c more → GrewByPrefix a c (start ++ entries_line xs)
    line_turned part =
        line_part a c (part_turned word xs begun a b c page more next (word (slice_index xs k)) k (slice_index xs k)
        within here (take_more xs k 0 within) refl put part)

-- the whole text
module _ (angle : Fraction) (exponent : ℕ) (shared : Shared) (start : List ℕ) (empty : start ≡ []) where
  abbrev Text : List ℕ → Type 0
  Text text = text ≡ replay_text angle exponent shared

  abbrev line : List ℕ
  line = line_of angle exponent (shared_interval shared)

  pub replay_part : (a b : Option (List ℕ)) → GrewByPrefix a b (start ++ entries_line shared.entries)
      → GrewByPart Text a b
  replay_part a b part = (
    replay_text angle exponent shared,
    refl,
    prefix-more a b (entries_line shared.entries) line
        (subst (λ s. GrewByPrefix a b (s ++ entries_line shared.entries)) empty part),
  )

  pub replay_stays : (a b : Option (List ℕ)) (page : List ℕ)
      → GrewAllBut a b page (start ++ entries_line shared.entries) → GrewByPart Text a b
  replay_stays a b page grew = replay_part a b (page-stays a b page (start ++ entries_line shared.entries) grew)

  module _ (a b c : Option (List ℕ)) (page more : List ℕ)
      (grew : GrewAllBut a b page (start ++ entries_line shared.entries)) (put : more ≡ page ++ line) where
    on_page : GrewAllBut a b more (replay_text angle exponent shared)
    on_page = subst (λ p. GrewAllBut a b p (replay_text angle exponent shared)) (sym put)
        (page-more a b page (entries_line shared.entries) line
        (subst (λ s. GrewAllBut a b page (s ++ entries_line shared.entries)) empty grew))

    pub replay_rest : GrewByPrefix b c more → GrewByPart Text a c
    replay_rest part =
        (replay_text angle exponent shared, refl, page-part a b c more (replay_text angle exponent shared) on_page part)

    pub replay_whole : GrewBy b c more → GrewBy a c (replay_text angle exponent shared)
    replay_whole whole = page-whole a b c more (replay_text angle exponent shared) on_page whole

pub interval_is : (i : Interval) (s : Shared) → i.low ≡ s.low → i.high ≡ s.high → i ≡ shared_interval s
interval_is i s low high =
    let with_low : ℕ → Interval = λ n. record { low = n; high = i.high } in
    let with_high : ℕ → Interval = λ n. record { low = s.low; high = n } in
    ap with_low low ∙ ap with_high high
