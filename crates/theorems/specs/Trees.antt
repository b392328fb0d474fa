-- Every tree of elements can be packed and is read back: records come back from their bytes, and an element from its records. So the model of
-- every element whose records keep the layout is read from some bytes. Assumes nothing.
use Rattle.std.specs.Prelude.{◌≡◌, refl, true, false, List, [], ◌∷◌, ◌++◌, ℕ, zero, suc, ◌+◌, ◌/◌, ◌^◌, ◌≤◌, ◌<◌, length, take, drop}
use Rattle.std.proofs.Common.{sym, ap, ◌∙◌, append_assoc, append-nil, arith, le-leb, le-ltb, lt-ltb, eq-eqb, ne_eqb, length-append, take_at, drop_at}
use Rattle.std.specs.Prelude.{Some}
use Rattle.definition.specs.Base.{every?, some?}
use Rattle.definition.specs.Bits.{Bits, enc, bits_of}
use Rattle.definition.specs.Text.{Text}
use Rattle.definition.specs.Tree.{Rec, head_of, packed, body_of, record_of, records_up_to, records, right, size, layout, Forest, nothing, one, Element, level, element, below_root}
use Rattle.definition.specs.Read.{model_of}
use Rattle.definition.specs.Pack.{encode}
use Rattle.definition.specs.Refusal.{gives, utf8?, project?, too_long, tree_refusal, read_answer}
use Rattle.laws.specs.Bits.{Bytes, Binary, length_enc, enc_binary, dec_enc_lt, length_bytes, bytes_small, whole_bits}
use Rattle.laws.specs.Each.{Each, empty, next, each_append}
use Rattle.laws.specs.FitTrees.{OfRecord}
use Rattle.theorems.specs.Accepted.{accepted_iff, given}
use Rattle.theorems.specs.Told.{root_of}

-- ---- records and their bytes

-- its depth fits 7 bits, the length of its name 9 and that of its text 16
pub record Packs (r : Rec) : Type 0 where
  pub depth : r.depth < 2 ^ 7
  pub name : length r.name < 2 ^ 9
  pub text : length r.text < 2 ^ 16

-- the bits of a head
abbrev head : Rec → Bits
head r = enc 7 r.depth ++ (enc 9 (length r.name) ++ enc 16 (length r.text))

head_length : (r : Rec) → length (head r) ≡ 32
head_length r = simp (length-append, length_enc)

head_binary : (r : Rec) → Binary (head r)
head_binary r = each_append (enc_binary 7 r.depth) (each_append (enc_binary 9 (length r.name)) (enc_binary 16 (length r.text)))

head_bytes : (r : Rec) → length (head_of r) ≡ 4
unfolding head_of
head_bytes r = rw (head_length r) (length_bytes 4 (head r))

head_bits : (r : Rec) → bits_of (head_of r) ≡ head r
unfolding head_of
head_bits r = whole_bits (head_binary r) (omega (arith, head_length r))

-- a body is taken from what follows its head
body_back : (depth : ℕ) (name text rest : Text)
    → body_of depth (length name) (length text) (name ++ (text ++ rest)) ≡ Some (record { depth = depth; name = name; text = text }, rest)
body_back depth name text rest =
    let l : length name + length text ≤ length (name ++ (text ++ rest)) = omega (arith, length-append name (text ++ rest), length-append text rest) in
    let d : drop (length name + length text) (name ++ (text ++ rest)) ≡ rest =
    ap (drop (length name + length text)) (sym (append_assoc name text rest)) ∙ drop_at (name ++ text) rest (length name + length text) (length-append name text) in
    rw (le-leb (length name + length text) (length (name ++ (text ++ rest))) l, d)
    (rw (take_at name (text ++ rest) (length name) refl, drop_at name (text ++ rest) (length name) refl, take_at text rest (length text) refl))

record_back : (r : Rec) (rest : Text) → Packs r → record_of (head_of r ++ (r.name ++ (r.text ++ rest))) ≡ Some (r, rest)
unfolding record_of
record_back r rest p =
    let body = r.name ++ (r.text ++ rest) in
    let n = enc 9 (length r.name) in
    let t = enc 16 (length r.text) in
    let l : 4 ≤ length (head_of r ++ body) = omega (arith, length-append (head_of r) body, head_bytes r) in
    let e : take 9 (drop 7 (head r)) ≡ n = rw (drop_at (enc 7 r.depth) (n ++ t) 7 (length_enc 7 r.depth)) (take_at n t 9 (length_enc 9 (length r.name))) in
    let f : drop 16 (head r) ≡ t =
    ap (drop 16) (sym (append_assoc (enc 7 r.depth) n t)) ∙ drop_at (enc 7 r.depth ++ n) t 16 (simp (length-append, length_enc)) in
    rw (le-ltb (length (head_of r ++ body)) 4 l, take_at (head_of r) body 4 (head_bytes r), drop_at (head_of r) body 4 (head_bytes r))
    (rw (head_bits r, take_at (enc 7 r.depth) (n ++ t) 7 (length_enc 7 r.depth), e, f)
    (rw (dec_enc_lt 7 r.depth p.depth, dec_enc_lt 9 (length r.name) p.name, dec_enc_lt 16 (length r.text) p.text) (body_back r.depth r.name r.text rest)))

up_to_back : (k : ℕ) {rs : List Rec} → Each Packs rs → length rs ≤ k → records_up_to k (packed rs) ≡ rs
unfolding records_up_to packed record_of
up_to_back zero empty h = refl
up_to_back zero (next p ps) h = absurd (omega arith)
up_to_back (suc k) empty h = refl
up_to_back (suc k) (next {x = r} {l = rs} p ps) h = rw (record_back r (packed rs) p) (ap (λ (l : List Rec). r ∷ l) (up_to_back k ps (omega arith)))

packed_length : (rs : List Rec) → length (packed rs) ≡ size rs
unfolding packed size
packed_length [] = refl
packed_length (r ∷ rs) =
    omega (
      arith,
      head_bytes r,
      length-append (head_of r) (r.name ++ (r.text ++ packed rs)),
      length-append r.name (r.text ++ packed rs),
      length-append r.text (packed rs),
      packed_length rs,
    )

size_most : (rs : List Rec) → length rs ≤ size rs
unfolding size
size_most [] = omega arith
size_most (r ∷ rs) = omega (arith, size_most rs)

-- records come back from their bytes
pub records_packed : {rs : List Rec} → Each Packs rs → records (packed rs) ≡ rs
unfolding records
records_packed {rs} p = up_to_back (length (packed rs)) p (omega (arith, packed_length rs, size_most rs))

-- bytes they are
pub packed_bytes : {rs : List Rec} → Each (OfRecord Bytes) rs → Bytes (packed rs)
unfolding packed head_of
packed_bytes empty = empty
packed_bytes (next {x = r} {l = rs} (n, t) bs) =
    each_append (bytes_small (length (head r) / 8) (head_binary r) (omega arith)) (each_append n (each_append t (packed_bytes bs)))

-- records that can be packed and pass the five tests
pub record Proper (rs : List Rec) : Type 0 where
  pub packs : Each Packs rs
  pub laid : right 0 rs ≡ true
  pub utf8 : every? utf8? rs ≡ true
  pub few : length rs ≤ 5000000
  pub project : project? rs ≡ true
  pub short : some? too_long (below_root rs) ≡ false

-- are a tree that is not refused
pub packed_accepted : {rs : List Rec} → Proper rs → tree_refusal (packed rs) ≡ 0
packed_accepted {rs} p =
    let e = records_packed p.packs in
    (accepted_iff (packed rs)).1 (record { laid = laid e; utf8 = rw e p.utf8; few = rw e p.few; project = rw e p.project; short = rw e p.short })
  where
    laid : records (packed rs) ≡ rs → layout (packed rs) ≡ true
    laid e = unfold layout in rw (e, p.laid) (eq-eqb (size rs) (length (packed rs)) (sym (packed_length rs)))

-- ---- elements and their records

abbrev pub records_at : ℕ → Forest → List Rec
records_at depth nothing = []
records_at depth (one n t c rest) = record { depth = depth; name = n; text = t } ∷ records_at (depth + 1) c ++ records_at depth rest

abbrev pub records_of : Element → List Rec
records_of e = record { depth = 1; name = e.name; text = e.text } ∷ records_at 2 e.below

-- no element of a depth or deeper stands at the front
abbrev Ends : ℕ → List Rec → Type 0
Ends depth rs = (d : ℕ) → depth ≤ d → level d rs ≡ nothing

ends_after : (depth : ℕ) (f : Forest) (rs : List Rec) → Ends depth rs → Ends (depth + 1) (records_at depth f ++ rs)
unfolding level
ends_after depth nothing rs h d k = h d (omega arith)
ends_after depth (one n t c rest) rs h d k = rw (lt-ltb depth d (omega arith))

-- deeper ones are passed over
level_passed : (d depth : ℕ) (f : Forest) (rs : List Rec) → d < depth → level d (records_at depth f ++ rs) ≡ level d rs
unfolding level
level_passed d depth nothing rs h = refl
level_passed d depth (one n t c rest) rs h =
    rw (le-ltb depth d (omega arith), ne_eqb depth d (λ e. omega arith), append_assoc (records_at (depth + 1) c) (records_at depth rest) rs)
    (level_passed d (depth + 1) c (records_at depth rest ++ rs) (omega arith) ∙ level_passed d depth rest rs h)

level_back : (depth : ℕ) (f : Forest) (rs : List Rec) → Ends depth rs → level depth (records_at depth f ++ rs) ≡ f
unfolding level
level_back depth nothing rs h = h depth (omega arith)
level_back depth (one n t c rest) rs h =
    let after = records_at depth rest ++ rs in
    let a : level (depth + 1) (records_at (depth + 1) c ++ after) ≡ c = level_back (depth + 1) c after (ends_after depth rest rs h) in
    let b : level depth (records_at (depth + 1) c ++ after) ≡ rest = level_passed depth (depth + 1) c after (omega arith) ∙ level_back depth rest rs h in
    rw (le-ltb depth depth (omega arith), eq-eqb depth depth refl, append_assoc (records_at (depth + 1) c) (records_at depth rest) rs, a, b)

-- an element comes back from its records
pub element_back : (e : Element) → element (records_of e) ≡ e
unfolding element level
element_back e =
    let b : level 2 (records_at 2 e.below) ≡ e.below = ap (level 2) (sym (append-nil (records_at 2 e.below))) ∙ level_back 2 e.below [] (λ d h. refl) in
    rw b

-- and from their bytes
pub root_packed : (e : Element) → Each Packs (records_of e) → root_of (packed (records_of e)) ≡ e
root_packed e p = ap element (records_packed p) ∙ element_back e

-- so the model of each such element is read
pub element_given : (e : Element) (room : ℕ) → Proper (records_of e) → length (encode (model_of e)) ≤ room → read_answer (packed (records_of e)) room ≡ gives (encode (model_of e))
element_given e room p h =
    let b = root_packed e p.packs in
    rw b at (given (packed (records_of e)) room (packed_accepted p) (rw b h))
