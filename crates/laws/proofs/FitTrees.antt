-- The texts of a tree that is made of bytes are short. Assumes nothing.
use Rattle.std.specs.Prelude.{if◌then◌else◌, ◌≡◌, refl, Bool, ℕ, zero, suc, ◌+◌, ◌^◌, ◌≤◌, ◌<◌, ltb, length, take, drop}
use Rattle.std.proofs.Math.Bool.{true, false}
use Rattle.std.specs.Prelude.{Option, None}
use Rattle.std.proofs.Common.{arith, ltb-false, length-take, length-drop}
use Rattle.definition.specs.Bits.{Bits, dec, bits_of}
use Rattle.definition.specs.Text.{Text}
use Rattle.definition.specs.Tree.{Rec, depth_width, name_width, head_bytes, body_of, record_of, and_then, records_up_to, records, element}
use Rattle.laws.specs.Each.{Each, empty, next, each_drop}
use Rattle.laws.specs.Bits.{Bytes, bits_binary, length_bits, dec_lt, dec_part}
use Rattle.laws.specs.FitLists.{Perhaps, missing, there}
use Rattle.laws.specs.FitTrees.{holds_element, SlimRecord, Taken, slim_body, Small}

-- ---- records of bytes

slim_record : {s : Text} → Bytes s → Perhaps Taken (record_of s)
unfolding record_of
slim_record {s} b = by (ltb (length s) head_bytes) refl
  where
    h : Bits
    h = bits_of (take head_bytes s)

    by : (u : Bool) → ltb (length s) head_bytes ≡ u
        → Perhaps Taken
        (if u then None else body_of (dec (take depth_width h)) (dec (take name_width (drop depth_width h))) (dec (drop (depth_width + name_width) h)) (drop head_bytes s))
    by true e = missing
    by false e =
        let l : 4 ≤ length s = ltb-false (length s) head_bytes e in
        let k : length (take head_bytes s) ≡ 4 = rw length-take (omega arith) in
        let n : dec (take name_width (drop depth_width h)) < 2 ^ 9 = dec_part (take head_bytes s) 7 9 (omega arith) in
        let w : length (drop (depth_width + name_width) h) ≡ 16 = rw (length-drop, length_bits) (omega arith) in
        let t : dec (drop (depth_width + name_width) h) < 2 ^ 16 = rw w at (dec_lt (each_drop (depth_width + name_width) (bits_binary (take head_bytes s)))) in
        slim_body (dec (take depth_width h)) (dec (take name_width (drop depth_width h))) (dec (drop (depth_width + name_width) h)) (omega arith) (omega arith) (each_drop head_bytes b)

slim_records : (n : ℕ) {s : Text} → Bytes s → Each SlimRecord (records_up_to n s)
unfolding records_up_to
slim_records zero b = empty
slim_records (suc n) b = by (slim_record b) (λ t c. slim_records n {s = t} c)
  where
    by : {o : Option (Rec × Text)} → Perhaps Taken o → ((t : Text) → Bytes t → Each SlimRecord (records_up_to n t)) → Each SlimRecord (and_then o (records_up_to n))
    by missing more = empty
    by (there {a = (r, rest)} h) more = next {x = r} h.0 (more rest h.1)

pub small_element : (s : Text) → Bytes s → Small (element (records s))
unfolding records
small_element s b = holds_element (omega arith, empty) (slim_records (length s) b)
