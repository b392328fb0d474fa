-- Texts, as bytes. The Unicode Standard, table 3-7: which byte sequences are well-formed UTF-8. Its property White_Space: what `trim` takes
-- away at both ends. Whole numbers as Rust's `parse` reads them: a sign or none (`-` for signed types only), digits, one at least, and
-- nothing else; out of the type's range is absent. Document 02, E1: a yes is the text `1` or `true`, as xsd:boolean writes it. Assumes nothing.
use Rattle.std.specs.Prelude.{if◌then◌else◌, ℕ, zero, suc, ◌+◌, ◌-◌, ◌*◌, ◌^◌, Bool, true, false, ◌&&◌, ◌||◌, List, [], ◌∷◌, reverse, length, drop, get_or, leb, ltb, eqb, ℤ, pos, neg_ℤ}
use Rattle.std.specs.Prelude.{Option, Some, None}
use Rattle.definition.specs.Base.{◌>>=◌, when, within, same}
use Rattle.definition.specs.Ascii.{bytes}

abbrev pub Text : Type 0
Text = List ℕ

-- ---- UTF-8

abbrev pub tail_byte : ℕ × ℕ
tail_byte = (0x80, 0xBF)

-- the ranges in which the bytes after a first byte lie, a row of the table each; none for a byte that begins nothing
unfoldable pub following : ℕ → Option (List (ℕ × ℕ))
following b =
    if within 0x00 0x7F b then Some [] else
    if within 0xC2 0xDF b then Some (tail_byte ∷ []) else
    if eqb b 0xE0 then Some ((0xA0, 0xBF) ∷ tail_byte ∷ []) else
    if within 0xE1 0xEC b then Some (tail_byte ∷ tail_byte ∷ []) else
    if eqb b 0xED then Some ((0x80, 0x9F) ∷ tail_byte ∷ []) else
    if within 0xEE 0xEF b then Some (tail_byte ∷ tail_byte ∷ []) else
    if eqb b 0xF0 then Some ((0x90, 0xBF) ∷ tail_byte ∷ tail_byte ∷ []) else
    if within 0xF1 0xF3 b then Some (tail_byte ∷ tail_byte ∷ tail_byte ∷ []) else
    if eqb b 0xF4 then Some ((0x80, 0x8F) ∷ tail_byte ∷ tail_byte ∷ []) else
    None

-- the text goes on well after a character that still lacks bytes in these ranges; none: after one that is not well-formed
unfoldable pub utf8_after : Text → Option (List (ℕ × ℕ)) → Bool
utf8_after [] None = false
utf8_after [] (Some []) = true
utf8_after [] (Some (r ∷ rs)) = false
utf8_after (b ∷ s) None = false
utf8_after (b ∷ s) (Some []) = utf8_after s (following b)
utf8_after (b ∷ s) (Some (r ∷ rs)) = utf8_after s (when (within r.0 r.1 b) rs)

unfoldable pub is_utf8 : Text → Bool
is_utf8 s = utf8_after s (Some [])

-- ---- White_Space, by the bytes of its characters in UTF-8

-- U+0009 to U+000D, U+0020
abbrev pub white1 : ℕ → Bool
white1 a = within 9 13 a || eqb a 32

-- U+0085, U+00A0
abbrev pub white2 : ℕ → ℕ → Bool
white2 a b = eqb a 0xC2 && (eqb b 0x85 || eqb b 0xA0)

-- U+1680; U+2000 to U+200A, U+2028, U+2029, U+202F; U+205F; U+3000
abbrev pub white3 : ℕ → ℕ → ℕ → Bool
white3 a b c =
    (eqb a 0xE1 && (eqb b 0x9A && eqb c 0x80)) ||
    ((eqb a 0xE2 && (eqb b 0x80 && (within 0x80 0x8A c || (within 0xA8 0xA9 c || eqb c 0xAF)))) ||
    ((eqb a 0xE2 && (eqb b 0x81 && eqb c 0x9F)) ||
    (eqb a 0xE3 && (eqb b 0x80 && eqb c 0x80))))

-- how many bytes the white space takes that begins with the bytes a, b, c; that ends with c, b, a. 0 where there is none
unfoldable pub front_width : ℕ → ℕ → ℕ → ℕ
front_width a b c = if white1 a then 1 else if white2 a b then 2 else if white3 a b c then 3 else 0

unfoldable pub back_width : ℕ → ℕ → ℕ → ℕ
back_width a b c = if white1 a then 1 else if white2 b a then 2 else if white3 c b a then 3 else 0

-- the text without the white space at its front; the number bounds how many times one is taken away
unfoldable pub strip : (ℕ → ℕ → ℕ → ℕ) → ℕ → Text → Text
strip width zero s = s
strip width (suc n) s = strip width n (drop (width (get_or s 0 0) (get_or s 1 0) (get_or s 2 0)) s)

unfoldable pub trim_front : Text → Text
trim_front s = strip front_width (length s) s

unfoldable pub trim_back : Text → Text
trim_back s = reverse (strip back_width (length s) (reverse s))

unfoldable pub trim : Text → Text
trim s = trim_back (trim_front s)

-- ---- parts

-- what stands before the first byte that passes a test, the whole text where none does; and what stands after it
unfoldable pub before : (ℕ → Bool) → Text → Text
before p [] = []
before p (b ∷ s) = if p b then [] else b ∷ before p s

unfoldable pub after : (ℕ → Bool) → Text → Option Text
after p [] = None
after p (b ∷ s) = if p b then Some s else after p s

-- ---- whole numbers

abbrev pub is_digit : ℕ → Bool
is_digit b = within 48 57 b

-- the digits of a text written after those of the number v
unfoldable pub digits_after : ℕ → Text → Option ℕ
digits_after v [] = Some v
digits_after v (b ∷ s) = if is_digit b then digits_after (v * 10 + (b - 48)) s else None

unfoldable pub digits : Text → Option ℕ
digits [] = None
digits (b ∷ s) = digits_after 0 (b ∷ s)

-- a sign in front: `+`, `-` or none
pub data Sign : Type 0 where
  plus minus bare : Sign

unfoldable pub sign_of : Text → Sign
sign_of [] = bare
sign_of (b ∷ s) = if eqb b 43 then plus else if eqb b 45 then minus else bare

-- an unsigned type of w bits, and a signed one
abbrev pub unsigned_by : Sign → ℕ → Text → Option ℕ
unsigned_by plus w s = digits (drop 1 s) >>= λ n. when (ltb n (2 ^ w)) n
unsigned_by minus w s = None
unsigned_by bare w s = digits s >>= λ n. when (ltb n (2 ^ w)) n

abbrev pub signed_by : Sign → ℕ → Text → Option ℤ
signed_by plus w s = digits (drop 1 s) >>= λ n. when (ltb n (2 ^ (w - 1))) (pos n)
signed_by minus w s = digits (drop 1 s) >>= λ n. when (leb n (2 ^ (w - 1))) (neg_ℤ (pos n))
signed_by bare w s = digits s >>= λ n. when (ltb n (2 ^ (w - 1))) (pos n)

unfoldable pub unsigned_of : ℕ → Text → Option ℕ
unsigned_of w s = unsigned_by (sign_of s) w s

unfoldable pub signed_of : ℕ → Text → Option ℤ
signed_of w s = signed_by (sign_of s) w s

-- a yes
unfoldable pub is_yes : Text → Bool
is_yes s = same s (bytes "1") || same s (bytes "true")
