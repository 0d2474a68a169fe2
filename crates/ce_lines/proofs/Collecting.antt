-- A line that comes byte by byte.
use Rattle.std.proofs.Common.{◌≡◌, ◌≢◌, ◌≤◌, ◌<◌, ◌+◌, ℕ, min, List, [], ◌∷◌, ◌++◌, length, take, slice_set}
use Rattle.std.proofs.Common.{Option, inl, ap, ◌∙◌, arith, length-append}
use Rattle.std.proofs.lemmas.List.{take_more_set}
use Rattle.std.proofs.lemmas.List.Elements.{All-append, All-cons}
use Rattle.std.specs.Io.KnownBytes.{Consumes}
use Rattle.std.proofs.KnownBytes.{Consumes-trans}
use Rattle.ce_lines.specs.Bytes.{WasGiven}
use Rattle.ce_lines.specs.declared.byte_reader.ByteReader.{ByteReader}
use Rattle.ce_lines.specs.Lines.{IsOneLine, TookFormless}

-- Bytes of a line were taken: so many, where 64 stands for all greater lengths, and they stand at the front of a buffer
-- where they are few.
pub record Collects (old new : Option (List ℕ)) (len : ℕ) (line : List ℕ) : Type 0 where
  pub text : List ℕ
  pub one : IsOneLine text
  pub took : Consumes old new text
  pub count : len ≡ min (length text) 64
  pub front : length text ≤ 63 → take len line ≡ text

module _ (a b c : Option (List ℕ)) (len : ℕ) (line : List ℕ) (so_far : Collects a b len line) where
  abbrev text : List ℕ
  text = so_far.text

  pub collects_more : (x n : ℕ) (line' : List ℕ) → length line ≡ 63 → x ≢ 10 → Consumes b c (x ∷ [])
      → n ≡ min (len + 1) 64 → (len < 63 → line' ≡ slice_set line len x) → Collects a c n line'
  collects_more x n line' long other step next short =
      let more_len : length (text ++ x ∷ []) ≡ length text + 1 = length-append text (x ∷ []) in
      let front : length (text ++ x ∷ []) ≤ 63 → take n line' ≡ text ++ x ∷ [] = λ few.
      let is_len : len ≡ length text = omega (arith, so_far.count, more_len, few) in
      let small : len < 63 = omega (arith, is_len, more_len, few) in
      let one_more : n ≡ len + 1 = omega (arith, next, small) in
      ap (λ m. take m line') one_more ∙ ap (take (len + 1)) (short small)
      ∙ take_more_set line len x (omega (arith, small, long))
      ∙ ap (λ l. l ++ x ∷ []) (so_far.front (omega (arith, more_len, few))) in
      record {
        text = text ++ x ∷ [];
        one = All-append (λ y. y ≢ 10) text (x ∷ []) so_far.one
            (All-cons (λ y. y ≢ 10) x [] other (λ k d h. absurd (omega (arith, h))));
        took = Consumes-trans a b c text (x ∷ []) so_far.took step;
        count = omega (arith, so_far.count, more_len, next);
        front = front;
      }

  pub long_line : Consumes b c (10 ∷ []) → 63 < len → TookFormless a c
  long_line step many = (
    text,
    inl (
      omega (arith, so_far.count, many),
      record { one = so_far.one; took = Consumes-trans a b c text (10 ∷ []) so_far.took step },
    ),
  )

pub given_more : {S : Type 0} (left : S → Option (List ℕ)) (a b c : ByteReader S) → WasGiven left a b
    → WasGiven left b c → WasGiven left a c
given_more left a b c first next = record {
  more = first.more + next.more;
  gave = (
    first.gave.0 ++ next.gave.0,
    (let long = length-append first.gave.0 next.gave.0 in let x = first.gave.1 in let y =
        next.gave.1 in omega (arith, long, x, y)),
    Consumes-trans (left a.source) (left b.source) (left c.source) first.gave.0 next.gave.0 first.gave.2 next.gave.2,
  );
  given = omega (arith, first.given, next.given);
}
