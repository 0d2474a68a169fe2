-- Replies keep the slots of a desk sound, and what a sound slot closes with is true.
use Rattle.std.proofs.Common.{◌+◌, ℕ, All, List, [], ◌∷◌, ◌++◌, Option, inl, inr, sym, subst}
use Rattle.std.proofs.lemmas.List.Elements.{All-nil, All-cons, All-append, All-set}
use Rattle.ce_angle.specs.Fraction.{Fraction}
use Rattle.ce_desk.specs.Desk.{Slot, Desk}
use Rattle.ce_desk.specs.DeskText.{Opens, Reads, IsReply, AreReplies, Closes}
use Rattle.ce_desk.specs.Sound.{IsTrueOf, IsSound}
use Rattle.ce_desk.specs.declared.closing.Closing.{Closing}
use Rattle.ce_orbit.specs.Iterates.{most_places}
use Rattle.ce_orbit.specs.Orbit.{HasOrbitWithin}
use Rattle.ce_rows.specs.Scale.{IsExponent}
use Rattle.ce_solve.proofs.Beginnings.{HasTrueStart, run_has_true_start}
use Rattle.ce_solve.proofs.RunsEnclose.{known_ends_enclose, closing_ends}
use Rattle.ce_solve.specs.SolvedRows.{IsRunOf}
use Rattle.ce_thurston.proofs.OrbitRows.{rows_in_range}
use Rattle.ce_thurston.specs.Indices.{rows_at}
use Rattle.ce_words.specs.declared.view.Run.{Run}

module _ (rounds exponent : ℕ) (known : IsExponent exponent) where
  -- The run of an orbit's rows starts with bounds that enclose.
  true_start : (angle : Fraction) (run : Run) (short : HasOrbitWithin most_places angle)
      → IsRunOf (rows_at short.orbit exponent) rounds run → HasTrueStart run
  true_start angle run short h =
      run_has_true_start (rows_at short.orbit exponent) rounds run
      (record { rows = rows_in_range short.orbit short.is_orbit short.few; scale = known }) h

  opened_sound : (desk after : Desk) (line : Option (List ℕ)) (text : List ℕ)
      → (o : Opens rounds exponent desk line after text) → IsSound rounds exponent o.slot
  opened_sound desk after line text o = record {
    short = o.short;
    run_of = o.opened.run_of;
    initial = (true_start o.slot.angle o.slot.run o.short o.opened.run_of).encloses;
    told = subst (All (IsTrueOf o.slot.run)) (sym o.opened.told) (All-nil (IsTrueOf o.slot.run));
  }

  read_sound : (desk after : Desk) (line : Option (List ℕ)) (text : List ℕ) → (r : Reads desk line after text)
      → IsSound rounds exponent r.slot
      → IsSound rounds exponent (record r.slot { told = r.slot.told ++ r.interval ∷ [] })
  read_sound desk after line text r s = record {
    short = s.short;
    run_of = s.run_of;
    initial = s.initial;
    told = All-append (IsTrueOf r.slot.run) r.slot.told (r.interval ∷ []) s.told
        (All-cons (IsTrueOf r.slot.run) r.interval []
        (record { encloses = r.encloses; inside = r.inside_initial }) (All-nil (IsTrueOf r.slot.run)));
  }

  reply_sound : (k : ℕ) (desk : Desk) (line : Option (List ℕ)) (after : Desk) (text : List ℕ)
      → IsReply rounds exponent k desk line after text → All (IsSound rounds exponent) desk.slots
      → All (IsSound rounds exponent) after.slots
  reply_sound k desk line after text (inl o) all =
      subst (λ (d : Desk). All (IsSound rounds exponent) d.slots) (sym o.after_is)
      (All-append (IsSound rounds exponent) desk.slots (o.slot ∷ []) all
      (All-cons (IsSound rounds exponent) o.slot [] (opened_sound desk after line text o)
      (All-nil (IsSound rounds exponent))))
  reply_sound k desk line after text (inr (inl r)) all =
      subst (λ (d : Desk). All (IsSound rounds exponent) d.slots) (sym r.after_is)
      (All-set (IsSound rounds exponent) desk.slots r.number (record r.slot { told = r.slot.told ++ r.interval ∷ [] })
      (read_sound desk after line text r
      (subst (IsSound rounds exponent) (r.slot_is r.slot) (all r.number r.slot r.there))) all)
  reply_sound k desk line after text (inr (inr r)) all =
      subst (λ (d : Desk). All (IsSound rounds exponent) d.slots) (sym r.after_is) all

  pub replies_sound : (k : ℕ) (desk : Desk) (lines : List (Option (List ℕ))) (after : Desk) (text : List ℕ)
      → AreReplies rounds exponent k desk lines after text → All (IsSound rounds exponent) desk.slots
      → All (IsSound rounds exponent) after.slots
  replies_sound k desk [] after text replies all =
      subst (λ (d : Desk). All (IsSound rounds exponent) d.slots) (sym replies.0) all
  replies_sound k desk (line ∷ lines) after text (next, reply, rest, is, more, spelled) all =
      replies_sound (k + 1) next lines after rest more (reply_sound k desk line next reply is all)

  -- The closing interval of a slot is true too.
  pub closing_true : (slot : Slot) (c : Closing) → IsSound rounds exponent slot → Closes slot c
      → IsTrueOf slot.run c.interval
  closing_true slot c sound closes =
      let low = c.interval.low in
      let high = c.interval.high in
      let places = closes.place ∷ [] in
      record {
        encloses = known_ends_enclose slot.run slot.turns places low high low high
            (true_start slot.angle slot.run sound.short sound.run_of) closes.is_run
            (closing_ends slot.run slot.turns places low high closes.is_run);
        inside = record { from = closes.is_run.greatest.from; to = closes.is_run.least.from };
      }
