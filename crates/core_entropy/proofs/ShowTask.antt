-- The task of the command `show`.
use Rattle.std.proofs.Common.{◌≡◌, ◌≤◌, ◌++◌, [], ◌∙◌, inr, ℕ, List, Option, length, refl}
use Rattle.std.proofs.Common.{sym, ap, subst, append_assoc}
use Rattle.std.specs.Prelude.{codes}
use Rattle.std.proofs.lemmas.List.Elements.{All-nil}
use Rattle.ce_angle.specs.Fraction.{Fraction, IsAngle}
use Rattle.ce_angle.specs.Spelled.{ended}
use Rattle.ce_orbit.specs.Orbit.{ForwardOrbit, IsForwardOrbit}
use Rattle.ce_port.specs.Pieces.{GrewAllBut}
use Rattle.ce_port.specs.Sink.{GrewBy}
use Rattle.ce_port.specs.WriteAll.{GrewByPrefix}
use Rattle.ce_port.proofs.Paging.{page-part, page-whole}
use Rattle.ce_rows.specs.Rows.{row_at}
use Rattle.ce_rows.specs.declared.row.Row.{Row}
use Rattle.ce_thurston.specs.Indices.{index_of, rows_of_orbit}
use Rattle.core_entropy.specs.Headline.{IsTrueClaim}
use Rattle.core_entropy.specs.Calls.{CallsFor}
use Rattle.core_entropy.specs.Output.{GrewByPart, HasEnded}
use Rattle.core_entropy.specs.Show.{IsShowText, head_text, pair_line, row_line, rows_text, show_task, show_text}
use Rattle.core_entropy.specs.declared.status.Status.TheVariants.{Done}
use Rattle.core_entropy.proofs.Ended.{ended_done}
use Rattle.core_entropy.proofs.AngleTask.{orbit_called, orbit_one, orbit_some, short_done}
use Rattle.core_entropy.proofs.Stages.{IsLawful}

pub show_lawful : (angle : Fraction) → IsAngle angle → IsLawful (show_task angle)
show_lawful angle is = record {
  some = λ input. orbit_some angle is;
  one = λ input. orbit_one angle;
  called = λ input. orbit_called angle;
  true = λ input text shows. ([], refl, All-nil IsTrueClaim);
}

pub row_spelled : (o : ForwardOrbit) (k : ℕ) (pair : ℕ × ℕ) (list : List Row) (row : Row) → index_of pair.0 pair.1 ≡ k
    → list ≡ rows_of_orbit o → row ≡ row_at list k → row_line k pair row ≡ pair_line o pair
row_spelled o k pair list row index same read =
    ap (λ r. row_line k pair r) (read ∙ ap (λ rows. row_at rows k) same)
    ∙ ap (λ n. row_line n pair (row_at (rows_of_orbit o) n)) (sym index)

-- one more piece after those that were appended
more_appended : (t u v x y : List ℕ) → u ≡ t ++ x → v ≡ u ++ y → v ≡ t ++ (x ++ y)
more_appended t u v x y first second = second ∙ ap (λ l. l ++ y) first ∙ append_assoc t x y

-- a word and a number after them
number_appended : (t u v x word number : List ℕ) → u ≡ t ++ x → v ≡ (u ++ word) ++ number
    → v ≡ t ++ ((x ++ word) ++ number)
number_appended t u v x word number first second =
    more_appended t (u ++ word) v (x ++ word) number (more_appended t u (u ++ word) x word first refl) second

-- The pieces of a row's line, one after another.
pub row_joined : (t t1 t2 t3 t4 t5 t6 k i j targets : List ℕ)
    → t1 ≡ (t ++ codes "row ") ++ k → t2 ≡ (t1 ++ codes " pair ") ++ i → t3 ≡ (t2 ++ codes " ") ++ j
    → t4 ≡ t3 ++ codes " to" → t5 ≡ t4 ++ targets → t6 ≡ t5 ++ codes "\n"
    → t6 ≡ t ++ ended (codes "row " ++ k ++ codes " pair " ++ i ++ codes " " ++ j ++ codes " to" ++ targets)
row_joined t t1 t2 t3 t4 t5 t6 k i j targets h1 h2 h3 h4 h5 h6 =
    let first = h1 ∙ append_assoc t (codes "row ") k in
    let second = number_appended t t1 t2 _ (codes " pair ") i first h2 in
    let third = number_appended t t2 t3 _ (codes " ") j second h3 in
    let fourth = more_appended t t3 t4 _ (codes " to") third h4 in
    more_appended t t5 t6 _ (codes "\n") (more_appended t t4 t5 _ targets fourth h5) h6

-- What was written of an orbit's text.
module _ (angle : Fraction) (o : ForwardOrbit) (is_orbit : IsForwardOrbit o) (of_angle : o.angle ≡ angle) where
  shows : IsShowText angle (show_text o)
  shows = record { orbit = o; is_orbit = is_orbit; of_angle = of_angle; spelled = refl }

  pub shown_part : (a b : Option (List ℕ)) (head : List ℕ) → head ≡ head_text o → GrewByPrefix a b (head ++ rows_text o)
      → GrewByPart (IsShowText angle) a b
  shown_part a b head is part = (show_text o, shows, subst (λ h. GrewByPrefix a b (h ++ rows_text o)) is part)

  pub shown_rest : (a b c : Option (List ℕ)) (head page : List ℕ) → head ≡ head_text o
      → GrewAllBut a b page (head ++ rows_text o) → GrewByPrefix b c page → GrewByPart (IsShowText angle) a c
  shown_rest a b c head page is grew part =
      shown_part a c head is (page-part a b c page (head ++ rows_text o) grew part)

  module _ {O : Type 0} (taken : O → Option (List ℕ)) (faults : O → ℕ) (old mid now : O) where
    pub shown : length o.places ≤ 128 → (head page : List ℕ) → head ≡ head_text o
        → GrewAllBut (taken old) (taken mid) page (head ++ rows_text o) → GrewBy (taken mid) (taken now) page
        → HasEnded taken faults (show_task angle) [] Done old now
    shown few head page is grew more =
        let calls : CallsFor (show_task angle) [] Done =
        inr (
          λ none. none,
          short_done angle (record { orbit = o; of_angle = of_angle; is_orbit = is_orbit; few = few }),
        ) in
        let whole = page-whole (taken old) (taken mid) (taken now) page (head ++ rows_text o) grew more in
        ended_done taken faults (show_task angle) [] old now calls (show_text o) shows
        (subst (λ h. GrewBy (taken old) (taken now) (h ++ rows_text o)) is whole)
