use Rattle.std.proofs.Common.{◌≡◌, ◌≢◌, ◌<◌, ◌∙◌, ℕ, Option, Some, false, cond, Result, Ok, Err, [], refl, length}
use Rattle.std.proofs.Common.{get_or, sym, ap, arith}
use Rattle.std.specs.BTreeMap.{get}
use Rattle.std.specs.Ordering.{is_eq}
use Rattle.std.specs.Prelude.{OnOk}
use Rattle.std.specs.Result.{is_err}
use Rattle.std.proofs.lemmas.List.{get_or_default}
use Rattle.ce_orbit.specs.KeyOrder.{key_order}
use Rattle.ce_orbit.specs.declared.key.KneadKey.{KneadKey}
use Rattle.ce_sweep.proofs.Known.{index-known, index-new}
use Rattle.ce_sweep.proofs.Numbered.{numbered-known, numbered-new, more-length}
use Rattle.ce_sweep.proofs.numbering.number_keys.Goals as goal
use Rattle.ce_sweep.proofs.numbering.number_keys.Goals.{in-Some+in_ok-push-in-Some}
use Rattle.ce_sweep.proofs.numbering.number_keys.Goals.{in-None+else-is_err+in_ok-push-in-None+in_ok-push-in-None-2}

on_ok : {T E : Type 0} (r : Result T E) (P : Type 0) → false ≡ is_err r → OnOk r P → P
on_ok (Ok x) P no_error h = h
on_ok (Err e) P no_error h = absurd (cc)

pub loop-place-preserved : goal.loop-place-preserved
loop-place-preserved c =
    let keys = c.args.keys.now in
    let i = c.loop-place.place in
    let of = c.loop-place.of.items in
    let first = c.loop-place.first.items in
    let known : KneadKey → Option ℕ = λ q. get key_order c.loop-place.known q in
    let zero : KneadKey = record { preperiod = 0; period = 0; symbols = [] } in
    let key = get_or keys i zero in
    let within : i < length keys = omega arith in
    let here : (d : KneadKey) → get_or keys i d ≡ key = λ d. get_or_default keys i d zero within in
    let before = c.loop-place.invariant in
    elim c.match-get.branch [
      | in-Some+in_ok-push-in-Some w ↦
          let class = w.in-Some.class.now in
          let met = w.in-Some.ensures.value in
          let found = before.index.found key class (sym met) in
          let numbers =
          numbered-known keys i class of first before.numbers within found.0 (λ d. found.1 d ∙ sym (here d)) in
          let index = index-known keys i first known before.index key here class (sym met) in
          rw (w.of-is, w.first-is, w.known-is, w.in_ok-push-in-Some.ensures.items)
          (record { numbers = numbers; index = index; few = omega (arith, before.few) })
      | in-None+else-is_err+in_ok-push-in-None+in_ok-push-in-None-2 w ↦
          let missing = w.in-None.ensures.value in
          let new : (j : ℕ) (d : KneadKey) → j < i → get_or keys j d ≢ get_or keys i d =
          λ j d less same. before.index.missing key (sym missing) j d less (same ∙ here d) in
          let class : w.len-class.result ≡ length first = omega (arith, w.len-class.ensures) in
          let puts = on_ok w.insert.result _ w.if-is_err.ensures.value w.insert.ensures.updates in
          let after : KneadKey → Option ℕ = λ q. get key_order w.insert.new.self q in
          let updated : (q : KneadKey) → after q ≡ cond (is_eq (key_order key q)) (Some (length first)) (known q) =
          λ q. puts.0 q ∙ ap (λ n. cond (is_eq (key_order key q)) (Some n) (known q)) class in
          let numbers = numbered-new keys i of first before.numbers within new in
          let index = index-new keys i first known before.index key here after updated in
          rw (
            w.of-is,
            w.first-is,
            w.known-is,
            w.in_ok-push-in-None.ensures.items,
            w.in_ok-push-in-None-2.ensures.items,
            class,
          ) (record {
            numbers = numbers;
            index = index;
            few = omega
                (arith, more-length first i (length first) refl, before.few);
          })
    ]
