use Rattle.std.proofs.Common.{[], ◌∷◌, refl, arith}
use Rattle.ce_rows.specs.declared.act.Act.TheVariants.{Asks}
use Rattle.ce_crew.proofs.rescaling.rescale_or_ask.Goals as goal

pub returns-then-greatest-ge-GREAT-clause-rescaling : goal.returns-then-greatest-ge-GREAT-clause-rescaling
returns-then-greatest-ge-GREAT-clause-rescaling c = record {
  acts = Asks ∷ [];
  gains = c.ask.ensures.gains c.args.copy.now;
  rescales = record {
    rescales = λ less. absurd (omega arith);
    asks = λ few great. refl;
    rests = λ few small. absurd (omega arith);
  };
}
