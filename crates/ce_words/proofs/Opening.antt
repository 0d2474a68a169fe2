-- The board as it is made keeps the invariant.
use Rattle.std.proofs.Common.{◌≡◌, ℕ, zero, suc, List, [], ◌∷◌, sym, refl, ap, subst, inl, arith, le_refl}
use mathlib.Core.Option.{some, some-injective, some-ne-none}
use lib.ListN.{get_elem?}
use Rattle.atomic_table.specs.Table.{opening}
use Rattle.ce_cert.specs.Start.{IsStart}
use Rattle.ce_rows.specs.Events.{Shared}
use Rattle.ce_rows.specs.SharedWords.{shared_in}
use Rattle.ce_words.specs.Invariant.{Belongs, IsBehind, HoldsLast, BoardInvariant, HoldsInvariant}
use Rattle.ce_words.specs.Logs.{weigh, Each, IsPossibleLog}
use Rattle.ce_words.specs.Views.{rows_of, opened}
use Rattle.ce_words.specs.declared.view.Run.{Run}
use Rattle.ce_words.specs.declared.view.View.{View}

only_one : (v u : View) (j : ℕ) → get_elem? (v ∷ []) j ≡ some u → v ≡ u
only_one v u zero e = some-injective v u e
only_one v u (suc j) e = absurd (some-ne-none u (sym e))

-- the words at the start
abbrev pub words_at_start : Run → List ℕ
words_at_start run = run.initial.low ∷ run.initial.high ∷ 0 ∷ 0 ∷ run.start

opened_invariant : (run : Run) → IsStart (rows_of run) run.ranks run.start run.initial.low run.initial.high
    → BoardInvariant run (shared_in (words_at_start run)) (opened run ∷ [])
opened_invariant run h =
    let s : Shared = shared_in (words_at_start run) in
    let each : (P : View → Type 0) → P (opened run) → (j : ℕ) (u : View) → get_elem? (opened run ∷ []) j ≡ some u
    → P u = λ P h j u e. subst P (only_one (opened run) u j e) h in
    record {
      same_graph = each (λ x. Belongs run x.role x) refl;
      bounds_enclose = h.encloses;
      bounds_are_best = record {
        low = record { from = le_refl _; all = λ c l. absurd (omega (arith, l)); source = inl refl };
        high = record { from = le_refl _; all = λ c l. absurd (omega (arith, l)); source = inl refl };
      };
      answers_are_behind = each (λ x. Each (IsBehind run s) (x.place ∷ x.joined))
          (record { bounds = record { low = le_refl _; high = le_refl _ }; count = le_refl 0 }, tt);
      logs_are_possible = each (λ x. Each (IsPossibleLog run (λ g. weigh g (opened run ∷ []))) (x.place ∷ x.joined))
          (tt, tt);
      entries_have_owners = record {
        owner = λ e. omega arith;
        last = each (λ x. Each (HoldsLast run s) (x.place ∷ x.joined)) ((λ e i. refl), tt);
        vector = h.vector;
      };
      rescale_count = record {
        most = omega arith;
        greatest = record
            { from = le_refl 0; all = λ c l. absurd (omega (arith, l)); source = inl refl };
      };
      stop_means_equal = record {
        bit = omega arith;
        best = record { from = le_refl 0; all = λ c l. absurd (omega (arith, l)); source = inl refl };
        found = λ l. absurd (omega (arith, l));
        equal = λ one. absurd (omega (arith, one));
      };
      one_first_seat = record {
        one = refl;
        out = λ j u e first. omega
            (arith, ap (λ (x : View). x.out) (only_one (opened run) u j e));
      };
    }

pub opens : (run : Run) (words : List ℕ) → words ≡ words_at_start run
    → IsStart (rows_of run) run.ranks run.start run.initial.low run.initial.high
    → HoldsInvariant run (opening words [] (opened run))
opens run words is h = subst (λ (l : List ℕ). HoldsInvariant run (opening l [] (opened run))) (sym is)
    (record { wide = let e = h.vector.each in omega (arith, e); holds = opened_invariant run h })
