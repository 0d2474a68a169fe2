-- Digits that are written from the last to the first.
use Rattle.std.proofs.Common.{◌≡◌, ◌<◌, ◌≤◌, ◌+◌, ◌-◌, ◌/◌, ◌%◌, ◌^◌, ℕ, zero, suc, false, List, [], ◌∷◌, ◌++◌, length}
use Rattle.std.proofs.Common.{set, drop, sym, ap, subst, ◌∙◌, arith, append_assoc}
use Rattle.std.specs.Prelude.{Result, Ok, Err, OnOk}
use Rattle.std.specs.List.{concat}
use Rattle.std.specs.Fmt.{digits, digit_glyph, decimal}
use Rattle.std.proofs.lemmas.Fmt.{length-decimal-le}
use Rattle.std.proofs.Math.Nat.{pow-suc, pow-zero}
use Rattle.std.proofs.lemmas.List.{drop-set, append-nil}
use Rattle.ce_map.specs.AppendInside.{Extends}
use Rattle.ce_map.proofs.NumberLaws.{digits_more, digits_one}

-- a byte that is written before the last ones
pub written_before : (buf : List ℕ) (i x : ℕ) (rest : List ℕ) → i < length buf → drop (i + 1) buf ≡ rest
    → drop i (set buf i x) ≡ x ∷ rest
written_before buf i x rest within after = drop-set buf i x within ∙ ap (λ l. x ∷ l) after

-- one more digit
pub hexadecimal_more : (n left : ℕ) (tail : List ℕ) → 16 ≤ left → left < 2 ^ 62
    → digits 16 false left ++ tail ≡ digits 16 false n
    → digits 16 false (left / 16) ++ digit_glyph false (left % 16) ∷ tail ≡ digits 16 false n
hexadecimal_more n left tail more small h =
    let step =
    digits_more 16 (omega arith) (omega arith) (left / 16) (left % 16) left (omega arith) (omega arith)
    (omega arith) small in
    sym (append_assoc (digits 16 false (left / 16)) (digit_glyph false (left % 16) ∷ []) tail)
    ∙ ap (λ l. l ++ tail) (sym step) ∙ h

pub hexadecimal_last : (n left : ℕ) (tail : List ℕ) → left < 16 → digits 16 false left ++ tail ≡ digits 16 false n
    → digit_glyph false left ∷ tail ≡ digits 16 false n
hexadecimal_last n left tail less h = ap (λ l. l ++ tail) (sym (digits_one 16 (omega arith) (omega arith) left less))
    ∙ h

-- numbers of two and of three decimal digits
pub two_digits : (n x y : ℕ) → 10 ≤ n → n < 100 → x ≡ digit_glyph false (n / 10) → y ≡ digit_glyph false (n % 10)
    → digits 10 false n ≡ x ∷ (y ∷ [])
two_digits n x y some few first last =
    let front = digits_one 10 (omega arith) (omega arith) (n / 10) (omega arith) in
    digits_more 10 (omega arith) (omega arith) (n / 10) (n % 10) n (omega arith) (omega arith) (omega arith)
    (omega arith)
    ∙ ap (λ l. l ++ digit_glyph false (n % 10) ∷ []) (front ∙ ap (λ g. g ∷ []) (sym first))
    ∙ ap (λ g. x ∷ (g ∷ [])) (sym last)

pub three_digits : (n x y z : ℕ) → 100 ≤ n → n < 1000 → x ≡ digit_glyph false (n / 10 / 10)
    → y ≡ digit_glyph false (n / 10 % 10) → z ≡ digit_glyph false (n % 10) → digits 10 false n ≡ x ∷ (y ∷ (z ∷ []))
three_digits n x y z some few first second last =
    let front = two_digits (n / 10) x y (omega arith) (omega arith) first second in
    digits_more 10 (omega arith) (omega arith) (n / 10) (n % 10) n (omega arith) (omega arith) (omega arith)
    (omega arith)
    ∙ ap (λ l. l ++ digit_glyph false (n % 10) ∷ []) front ∙ ap (λ g. x ∷ (y ∷ (g ∷ []))) (sym last)

pub ok_then : {X E : Type 0} (r : Result X E) (P Q : Type 0) → (P → Q) → OnOk r P → OnOk r Q
ok_then (Ok x) P Q more h = more h
ok_then (Err e) P Q more h = tt

-- one piece after another
pub pieces_three : (t w n f u : List ℕ) → u ≡ ((t ++ w) ++ n) ++ f → u ≡ t ++ (w ++ n ++ f)
pieces_three t w n f u h = h ∙ regroup t w n f
  where
    regroup : (t w n f : List ℕ) → ((t ++ w) ++ n) ++ f ≡ t ++ (w ++ n ++ f)
    regroup t w n f = simp append_assoc

pub pieces_low : (t w d n f u : List ℕ) → u ≡ ((t ++ (w ++ d)) ++ n) ++ f → u ≡ t ++ (w ++ d ++ n ++ f)
pieces_low t w d n f u h = h ∙ regroup t w d n f
  where
    regroup : (t w d n f : List ℕ) → ((t ++ (w ++ d)) ++ n) ++ f ≡ t ++ (w ++ d ++ n ++ f)
    regroup t w d n f = simp append_assoc

pub pieces_angle : (t w n1 a n2 b n3 c n4 d u : List ℕ)
    → u ≡ ((((t ++ (w ++ n1)) ++ (a ++ n2)) ++ (b ++ n3)) ++ (c ++ n4)) ++ d
    → u ≡ t ++ (w ++ (n1 ++ a ++ n2) ++ b ++ n3 ++ c ++ n4 ++ d)
pieces_angle t w n1 a n2 b n3 c n4 d u h = h ∙ regroup t w n1 a n2 b n3 c n4 d
  where
    regroup : (t w n1 a n2 b n3 c n4 d : List ℕ)
        → ((((t ++ (w ++ n1)) ++ (a ++ n2)) ++ (b ++ n3)) ++ (c ++ n4)) ++ d ≡ t ++
        (w ++ (n1 ++ a ++ n2) ++ b ++ n3 ++ c ++ n4 ++ d)
    regroup t w n1 a n2 b n3 c n4 d = simp append_assoc

pub pieces_header : (t w v a o s e f u : List ℕ) → u ≡ (((t ++ (w ++ v)) ++ (a ++ o)) ++ (s ++ e)) ++ f
    → u ≡ t ++ (w ++ v ++ a ++ o ++ (s ++ e) ++ f)
pieces_header t w v a o s e f u h = h ∙ regroup t w v a o s e f
  where
    regroup : (t w v a o s e f : List ℕ)
        → (((t ++ (w ++ v)) ++ (a ++ o)) ++ (s ++ e)) ++ f ≡ t ++ (w ++ v ++ a ++ o ++ (s ++ e) ++ f)
    regroup t w v a o s e f = simp append_assoc

pub pieces_item : (t a b c d u : List ℕ) → u ≡ (((t ++ a) ++ b) ++ c) ++ d → u ≡ t ++ concat (a ∷ b ∷ c ∷ d ∷ [])
pieces_item t a b c d u h = h ∙ regroup t a b c d
  where
    regroup : (t a b c d : List ℕ) → (((t ++ a) ++ b) ++ c) ++ d ≡ t ++ (a ++ (b ++ (c ++ (d ++ []))))
    regroup t a b c d = ap (λ l. (((t ++ a) ++ b) ++ c) ++ l) (sym (append-nil d)) ∙ more t a b c (d ++ [])
      where
        more : (t a b c e : List ℕ) → (((t ++ a) ++ b) ++ c) ++ e ≡ t ++ (a ++ (b ++ (c ++ e)))
        more t a b c e = simp append_assoc

pub decimal_short : (n : ℕ) → n < 2 ^ 64 → length (decimal n) ≤ 20
decimal_short n small = length-decimal-le 20 n (omega arith) (omega arith) small

-- a space before digits that end a buffer
pub spaced : (buf : List ℕ) (start : ℕ) (text rest : List ℕ) → 1 ≤ start → start ≤ length buf
    → drop start buf ≡ text ++ rest → rest ≡ [] → drop (start - 1) (set buf (start - 1) 32) ≡ 32 ∷ text
spaced buf start text rest some within after none =
    let back : start - 1 + 1 ≡ start = omega arith in
    written_before buf (start - 1) 32 text (omega arith) (ap (λ i. drop i buf) back ∙ after ∙ ap (λ l. text ++ l) none
    ∙ append-nil text)

pub turn : (n left at : ℕ) (buf : List ℕ) (x : ℕ) → 16 ≤ left → left < 2 ^ 62 → 1 ≤ at → at ≤ length buf
    → x ≡ digit_glyph false (left % 16) → digits 16 false left ++ drop at buf ≡ digits 16 false n
    → digits 16 false (left / 16) ++ drop (at - 1) (set buf (at - 1) x) ≡ digits 16 false n
turn n left at buf x more small some within is h =
    let back : at - 1 + 1 ≡ at = omega arith in
    let put : drop (at - 1) (set buf (at - 1) x) ≡ x ∷ drop at buf =
    written_before buf (at - 1) x (drop at buf) (omega arith) (ap (λ i. drop i buf) back) in
    ap (λ l. digits 16 false (left / 16) ++ l) (put ∙ ap (λ y. y ∷ drop at buf) is)
    ∙ hexadecimal_more n left (drop at buf) more small h

pub last_turn : (n left at : ℕ) (buf : List ℕ) (x : ℕ) → left < 16 → 1 ≤ at → at ≤ length buf
    → x ≡ digit_glyph false left → digits 16 false left ++ drop at buf ≡ digits 16 false n
    → drop (at - 1) (set buf (at - 1) x) ≡ digits 16 false n
last_turn n left at buf x less some within is h =
    let back : at - 1 + 1 ≡ at = omega arith in
    let put : drop (at - 1) (set buf (at - 1) x) ≡ x ∷ drop at buf =
    written_before buf (at - 1) x (drop at buf) (omega arith) (ap (λ i. drop i buf) back) in
    put ∙ ap (λ y. y ∷ drop at buf) is ∙ hexadecimal_last n left (drop at buf) less h

-- fewer digits are left
pub fewer_digits : (left k : ℕ) → 16 ≤ left → left < 16 ^ k → (2 ≤ k) × (left / 16 < 16 ^ (k - 1))
fewer_digits left zero more room = absurd (omega (arith, pow-zero 16))
fewer_digits left (suc zero) more room = absurd (omega (arith, pow-suc 16 0, pow-zero 16))
fewer_digits left (suc (suc j)) more room =
    let below : left / 16 < 16 ^ suc j = omega (arith, pow-suc 16 (suc j)) in
    let same : suc (suc j) - 1 ≡ suc j = omega arith in
    (omega arith, subst (λ k. left / 16 < 16 ^ k) (sym same) below)

-- pieces with what each call left
pub angle_pieces : (t u1 u2 u3 u4 u w a b c d : List ℕ) (m1 m2 m3 m4 n1 n2 n3 n4 : ℕ) → m1 ≡ n1 → m2 ≡ n2 → m3 ≡ n3
    → m4 ≡ n4 → u1 ≡ t ++ (w ++ decimal m1) → u2 ≡ u1 ++ (a ++ decimal m2) → u3 ≡ u2 ++ (b ++ decimal m3)
    → u4 ≡ u3 ++ (c ++ decimal m4) → u ≡ u4 ++ d
    → u ≡ t ++ (w ++ (decimal n1 ++ a ++ decimal n2) ++ b ++ decimal n3 ++ c ++ decimal n4 ++ d)
angle_pieces t u1 u2 u3 u4 u w a b c d m1 m2 m3 m4 n1 n2 n3 n4 f1 f2 f3 f4 e1 e2 e3 e4 e5 =
    let g1 = e1 ∙ ap (λ n. t ++ (w ++ decimal n)) f1 in
    let g2 = e2 ∙ ap (λ n. u1 ++ (a ++ decimal n)) f2 ∙ ap (λ x. x ++ (a ++ decimal n2)) g1 in
    let g3 = e3 ∙ ap (λ n. u2 ++ (b ++ decimal n)) f3 ∙ ap (λ x. x ++ (b ++ decimal n3)) g2 in
    let g4 = e4 ∙ ap (λ n. u3 ++ (c ++ decimal n)) f4 ∙ ap (λ x. x ++ (c ++ decimal n4)) g3 in
    pieces_angle t w (decimal n1) a (decimal n2) b (decimal n3) c (decimal n4) d u (e5 ∙ ap (λ x. x ++ d) g4)

pub three_pieces : (t u1 u2 u w n f : List ℕ) → u1 ≡ t ++ w → u2 ≡ u1 ++ n → u ≡ u2 ++ f → u ≡ t ++ (w ++ n ++ f)
three_pieces t u1 u2 u w n f e1 e2 e3 =
    pieces_three t w n f u (e3 ∙ ap (λ x. x ++ f) (e2 ∙ ap (λ x. x ++ n) e1))

pub low_pieces : (t u1 u2 u w n f : List ℕ) (m d : ℕ) → m ≡ d → u1 ≡ t ++ (w ++ decimal m) → u2 ≡ u1 ++ n → u ≡ u2 ++ f
    → u ≡ t ++ (w ++ decimal d ++ n ++ f)
low_pieces t u1 u2 u w n f m d is e1 e2 e3 =
    pieces_low t w (decimal d) n f u (e3
    ∙ ap (λ x. x ++ f) (e2 ∙ ap (λ x. x ++ n) (e1 ∙ ap (λ k. t ++ (w ++ decimal k)) is)))

pub kept_whole : {X E : Type 0} (r p : Result X E) (mid now text : List ℕ) → r ≡ p → OnOk r (now ≡ mid)
    → OnOk p (mid ≡ text) → OnOk r (now ≡ text)
kept_whole r p mid now text same kept put =
    ok_both r (now ≡ mid) (mid ≡ text) (now ≡ text) (λ a b. a ∙ b) kept
    (subst (λ q. OnOk q (mid ≡ text)) (sym same) put)
  where
    ok_both : {X E : Type 0} (r : Result X E) (P Q R : Type 0) → (P → Q → R) → OnOk r P → OnOk r Q → OnOk r R
    ok_both (Ok x) P Q R both p q = both p q
    ok_both (Err e) P Q R both p q = tt

pub header_pieces : (t u1 u2 u3 u w a s f : List ℕ) (v m1 m2 o e : ℕ) → m1 ≡ o → m2 ≡ e → u1 ≡ t ++ (w ++ decimal v)
    → u2 ≡ u1 ++ (a ++ decimal m1) → u3 ≡ u2 ++ (s ++ decimal m2) → u ≡ u3 ++ f
    → u ≡ t ++ (w ++ decimal v ++ a ++ decimal o ++ (s ++ decimal e) ++ f)
header_pieces t u1 u2 u3 u w a s f v m1 m2 o e f1 f2 e1 e2 e3 e4 =
    let g2 = e2 ∙ ap (λ n. u1 ++ (a ++ decimal n)) f1 ∙ ap (λ x. x ++ (a ++ decimal o)) e1 in
    let g3 = e3 ∙ ap (λ n. u2 ++ (s ++ decimal n)) f2 ∙ ap (λ x. x ++ (s ++ decimal e)) g2 in
    pieces_header t w (decimal v) a (decimal o) s (decimal e) f u (e4 ∙ ap (λ x. x ++ f) g3)

pub item_pieces : (t u1 u2 u3 u a b c d : List ℕ) → u1 ≡ t ++ a → u2 ≡ u1 ++ b → u3 ≡ u2 ++ c → u ≡ u3 ++ d
    → u ≡ t ++ concat (a ∷ b ∷ c ∷ d ∷ [])
item_pieces t u1 u2 u3 u a b c d e1 e2 e3 e4 =
    pieces_item t a b c d u (e4 ∙ ap (λ x. x ++ d) (e3 ∙ ap (λ x. x ++ c) (e2 ∙ ap (λ x. x ++ b) e1)))
