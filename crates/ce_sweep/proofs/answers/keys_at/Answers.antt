use Rattle.std.proofs.Common.{◌≡◌, ◌<◌, ◌++◌, [], ◌∷◌, length, get_or, arith}
use Rattle.std.proofs.lemmas.Grind.{common_steps}
use Rattle.std.proofs.lemmas.List.{get_or_default}
use Rattle.ce_orbit.specs.declared.key.KneadKey.{KneadKey}
use Rattle.ce_sweep.specs.AnswersInside.{StandsAt}
use Rattle.ce_sweep.proofs.Zipped.{zip_more}
use Rattle.ce_sweep.proofs.answers.keys_at.Goals as goal

pub loop-place-preserved : goal.loop-place-preserved
loop-place-preserved c =
    let keys = c.args.keys.now in
    let places = c.args.places.now in
    let i = c.loop-place.place-index in
    let zero : KneadKey = record { preperiod = 0; period = 0; symbols = [] } in
    let place = get_or places i 0 in
    let key = get_or keys place zero in
    let within : place < length keys = c.requires i 0 c.loop-place-test.true in
    let stands : StandsAt keys place key =
    record { within = within; here = λ d. get_or_default keys place d zero within } in
    let items : c.push.new.self.items ≡ c.loop-place.chosen.items ++ key ∷ [] =
    grind (arith, common_steps, c.push.ensures.items) in
    rw items (zip_more (StandsAt keys) places c.loop-place.chosen.items i 0 key c.loop-place-test.true
    c.loop-place.invariant stands)
