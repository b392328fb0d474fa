-- The tree. Document 01: elements in document order, each one record: depth 7 bits (root 1), length of the local name 9 bits, length of its own
-- text 16 bits, then name bytes, then text bytes. The first depth is 1; a depth is 1 to 65 and at most one more than the one before; depth
-- 65 has no text. `child`, `all` and `text_of` look only at direct children. `text_of` takes the first child of that name, trims, and empty
-- counts as absent. From the second depth-1 record on, records are not read. Assumes nothing.
use Rattle.std.specs.Prelude.{if◌then◌else◌, ℕ, zero, suc, ◌+◌, ◌/◌, Bool, true, ◌&&◌, ◌||◌, List, [], ◌∷◌, ◌++◌, length, take, drop, leb, ltb, eqb}
use Rattle.std.specs.Prelude.{Option, Some, None}
use Rattle.definition.specs.Base.{◌>>=◌, when, first, keep, same, within}
use Rattle.definition.specs.Bits.{enc, dec, bits_of, bytes_of}
use Rattle.definition.specs.Text.{Text, trim}

-- ---- records

pub record Rec : Type 0 where
  pub depth : ℕ
  pub name : Text
  pub text : Text

-- the head's widths in bits, and its bytes
abbrev pub depth_width : ℕ
depth_width = 7

abbrev pub name_width : ℕ
name_width = 9

abbrev pub text_width : ℕ
text_width = 16

abbrev pub head_bytes : ℕ
head_bytes = (depth_width + name_width + text_width) / 8

unfoldable pub head_of : Rec → Text
head_of r = bytes_of (enc depth_width r.depth ++ (enc name_width (length r.name) ++ enc text_width (length r.text)))

unfoldable pub packed : List Rec → Text
packed [] = []
packed (r ∷ rs) = head_of r ++ (r.name ++ (r.text ++ packed rs))

-- a record of so many bytes of name and of text, whose head was taken off; and what follows it
abbrev pub body_of : ℕ → ℕ → ℕ → Text → Option (Rec × Text)
body_of depth n t s =
    when (leb (n + t) (length s)) (record { depth = depth; name = take n s; text = take t (drop n s) }, drop (n + t) s)

-- the record at the front, if it is whole
unfoldable pub record_of : Text → Option (Rec × Text)
record_of s =
    let h = bits_of (take head_bytes s) in
    if ltb (length s) head_bytes then None else
    body_of (dec (take depth_width h)) (dec (take name_width (drop depth_width h))) (dec (drop (depth_width + name_width) h)) (drop head_bytes s)

abbrev pub and_then : Option (Rec × Text) → (Text → List Rec) → List Rec
and_then None go = []
and_then (Some (r, rest)) go = r ∷ go rest

-- the records as far as they are whole; the number bounds how many
unfoldable pub records_up_to : ℕ → Text → List Rec
records_up_to zero s = []
records_up_to (suc n) s = and_then (record_of s) (records_up_to n)

unfoldable pub records : Text → List Rec
records s = records_up_to (length s) s

-- ---- the layout

-- the deepest level
abbrev pub most_depth : ℕ
most_depth = 65

-- a record after one of depth p
abbrev pub right_at : ℕ → ℕ → ℕ → Bool
right_at p depth textLength = within 1 (p + 1) depth && (leb depth most_depth && (ltb depth most_depth || eqb textLength 0))

unfoldable pub right : ℕ → List Rec → Bool
right p [] = true
right p (r ∷ rs) = right_at p r.depth (length r.text) && right r.depth rs

unfoldable pub size : List Rec → ℕ
size [] = 0
size (r ∷ rs) = head_bytes + length r.name + length r.text + size rs

-- whole records to the end, each in its place
unfoldable pub layout : Text → Bool
layout s = right 0 (records s) && eqb (size (records s)) (length s)

-- ---- elements

-- elements in a row, each with its name, its own text and its children
pub data Forest : Type 0 where
  nothing : Forest
  one : (name : Text) (text : Text) (children : Forest) (rest : Forest) → Forest

pub record Element : Type 0 where
  pub name : Text
  pub text : Text
  pub below : Forest

unfoldable pub elements : Forest → List Element
elements nothing = []
elements (one n t c rest) = record { name = n; text = t; below = c } ∷ elements rest

-- the elements of a depth at the front of the records, up to the first record of less depth
unfoldable pub level : ℕ → List Rec → Forest
level depth [] = nothing
level depth (r ∷ rs) =
    if ltb r.depth depth then nothing else
    if eqb r.depth depth then one r.name r.text (level (depth + 1) rs) (level depth rs) else level depth rs

-- the element whose record is the first
unfoldable pub element : List Rec → Element
element [] = record { name = []; text = []; below = nothing }
element (r ∷ rs) = record { name = r.name; text = r.text; below = level (r.depth + 1) rs }

unfoldable pub all : Element → Text → List Element
all e n = keep (λ (c : Element). same c.name n) (elements e.below)

unfoldable pub child : Element → Text → Option Element
child e n = first (all e n)

abbrev pub non_empty : Text → Option Text
non_empty [] = None
non_empty (b ∷ s) = Some (b ∷ s)

unfoldable pub text_of : Element → Text → Option Text
text_of e n = child e n >>= λ c. non_empty (trim c.text)

-- all elements of a name in an element; none where that one is missing
abbrev pub all_in : Option Element → Text → List Element
all_in None n = []
all_in (Some e) n = all e n

-- the records up to the next of depth 1, and those below the root
unfoldable pub deeper : List Rec → List Rec
deeper [] = []
deeper (r ∷ rs) = if leb r.depth 1 then [] else r ∷ deeper rs

unfoldable pub below_root : List Rec → List Rec
below_root [] = []
below_root (r ∷ rs) = deeper rs
