-- How digits are read from the front of a text.
use Rattle.std.specs.Prelude.{ℕ, ◌+◌, ◌-◌, ◌*◌, ◌==◌, Bool, true, not, List, [], ◌∷◌, Option, None, Some, nat_lt}
use Rattle.std.specs.Prelude.{if◌then◌else◌}
use Rattle.ce_rows.specs.Limits.{number_limit}

-- the value of a digit, 0 to 9 or a to f, and 16 of any other byte
abbrev pub digit_in : ℕ → ℕ
digit_in byte =
    if nat_lt byte 48 then 16
    else (if nat_lt byte 58 then byte - 48
    else (if nat_lt byte 97 then 16
    else (if nat_lt byte 103 then byte - 87
    else 16)))

-- the number that the digits at the front make when they follow those of n, and what is left
abbrev pub digits_front : ℕ → ℕ → List ℕ → ℕ × List ℕ
digits_front base n [] = (n, [])
digits_front base n (c ∷ cs) =
    if nat_lt (digit_in c) base then digits_front base (n * base + digit_in c) cs else (n, c ∷ cs)

-- whether no digit stands at the front
abbrev pub is_plain : ℕ → List ℕ → Bool
is_plain base [] = true
is_plain base (c ∷ cs) = not (nat_lt (digit_in c) base)

-- what is read, if it is in range
abbrev pub in_range : ℕ × List ℕ → Option (ℕ × List ℕ)
in_range r = if nat_lt r.0 number_limit then Some r else None

-- the number at the front of a text, if there is one, and what is left
unfoldable pub number_front : ℕ → List ℕ → Option (ℕ × List ℕ)
number_front base [] = None
number_front base (c ∷ cs) =
    if nat_lt (digit_in c) base
    then (if c == 48 then (if is_plain base cs then Some (0, cs) else None)
    else in_range (digits_front base (digit_in c) cs))
    else None
