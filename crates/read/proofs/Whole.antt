-- The bytes of a model whose records were put and whose counts were closed, and what is answered. Assumes nothing.
use Rattle.std.specs.Prelude.{if◌then◌else◌}
use mathlib.Core.Path.{◌≡◌, refl, sym, ap, ◌∙◌, subst}
use mathlib.Core.Bool.{Bool, true, false, not}
use mathlib.Core.List.{List, ◌++◌, append_assoc}
use Prim.Native.Nat.{ℕ, ◌+◌, ◌*◌, ◌/◌, ◌%◌, ◌≤◌, ◌<◌}
use native.Mathlib.Omega.{arith}
use borrow.Author.Tests.{le-leb, lt-leb, lt-ltb, ltb-false}
use lib.Dec.{ltb}
use lib.ListN.{length, take, drop, get_or, replicate, length-append}
use lib.Seq.{length-take-le, take_at}
use Rattle.definition.specs.Base.{every?, some?}
use Rattle.definition.specs.Text.{Text}
use Rattle.definition.specs.Bits.{Bits, bits_of, bytes_of}
use Rattle.definition.specs.Format.{field, ◌⊗◌}
use Rattle.definition.specs.Tree.{records, layout, element, below_root}
use Rattle.definition.specs.Model.{Model}
use Rattle.definition.specs.Pack.{Counts, counts, counts_of, Body, body, body_of, model, encode}
use Rattle.definition.specs.Read.{model_of}
use Rattle.definition.specs.Refusal.{Answer, refused, gives, in_room, most_elements, utf8?, project?, too_long, tree_refusal, read_answer}
use Rattle.laws.specs.Bits.{length_enc, enc_low, length_bytes, whole_bytes, bits_take, bytes_of_lem}
use Rattle.laws.specs.Each.{each_take}
use Rattle.laws.specs.FitTrees.{calendars_most, resources_most}
use Rattle.laws.specs.Formats.{Fills, fills_body}
use Rattle.laws.specs.Buf.{◌▷◌, size_of}
use Rattle.tree.specs.Place.{element_at}
use Rattle.bits.specs.Places.{at, inside, Fits, room_none}
use Rattle.bits.specs.Clear.{cleared}
use Rattle.bits.specs.Steps.{Puts, Step, said, view, view_in}
use Rattle.bits.specs.Round.{put_stood, stood_all, overran}
use Rattle.bits.specs.declared.Place.{Place}
use Rattle.pack.specs.Record.{counts_by}
use Rattle.pack.specs.Record as P
use Rattle.read.specs.Sections.{start, low, zeros, Few, AllPut, Closes}
use Rattle.read.specs.declared.sections.Sections.{Sections}
use Rattle.read.specs.Answers.{Leaves}
use Rattle.read.specs.Answers as A
use Rattle.std.specs.Prelude.{Ok, Err}
use Rattle.definition.specs.declared.Refusal.{Refusal}
use Rattle.definition.specs.declared.Refusal.TheVariants as refusal
use Rattle.definition.specs.declared.Refusal.TheVariants.{NoRoom}
use Rattle.definition.specs.Answer.{refusal_number}
use Rattle.laws.specs.Evens.{even_body}

-- ---- whole bytes

counts_length : (k : Counts) → length (counts.put 0 k) ≡ 192
unfolding ◌⊗◌ field
counts_length k = simp (length-append, length_enc)

pub fills_counts : Fills counts
unfolding ◌⊗◌ field
fills_counts = record { ends = λ n k h. simp (length-append, length_enc) (omega arith) }

-- the bits of a model: its counts, and its body behind them
module _ (m : Model) where
  body_bits : Bits
  body_bits = (body (counts_of m)).put 0 (body_of m)

  model_bits : model.put 0 m ≡ counts.put 0 (counts_of m) ++ body_bits
  unfolding model body_bits
  model_bits = refl

  -- with other counts
  bits_with : (k : Counts) → (counts ⊗ body (counts_of m)).put 0 (k, body_of m) ≡ counts.put 0 k ++ body_bits
  unfolding ◌⊗◌ body_bits
  bits_with k = ap (λ (l : Bits). counts.put 0 k ++ l) ((even_body (counts_of m)).even (0 + length (counts.put 0 k)) 0 (body_of m) (omega (arith, counts_length k)))

  long_with : (k : Counts) → length (counts.put 0 k ++ body_bits) ≡ 192 + length body_bits
  long_with k = length-append (counts.put 0 k) body_bits ∙ ap (λ (n : ℕ). n + length body_bits) (counts_length k)

  model_long : length (model.put 0 m) ≡ 192 + length body_bits
  model_long = ap length model_bits ∙ long_with (counts_of m)

  body_whole : length body_bits % 8 ≡ 0
  unfolding body_bits
  body_whole = let h = (fills_body (counts_of m)).ends 0 (body_of m) (omega arith) in omega (arith, h)

  encode_long : length (encode m) ≡ (192 + length body_bits) / 8
  unfolding encode
  encode_long = length_bytes (length (model.put 0 m) / 8) (model.put 0 m) ∙ ap (λ (n : ℕ). n / 8) model_long

-- counts as 32 bits hold them have the same bits
low_bits : (k : Counts) → counts.put 0 (low k) ≡ counts.put 0 k
unfolding ◌⊗◌ field
low_bits k = rw (enc_low 32 k.0, enc_low 32 k.1.0, enc_low 32 k.1.1.0) (rw (enc_low 32 k.1.1.1.0, enc_low 32 k.1.1.1.1.0, enc_low 32 k.1.1.1.1.1) refl)

-- ---- the model was put from the start on, with zeros for its counts

module _ (m : Model) {d d1 : List ℕ} {end : Place} (w : Puts (counts ⊗ body (counts_of m)) (zeros, body_of m) d start d1 end) where
  -- it fitted: the counts were closed, and the bytes stand there
  closed : {n : P.Counts} {d2 : List ℕ} → inside (length d1) end ≡ true → counts_by n ≡ low (counts_of m) → Closes n d1 d2 → ((i : ℕ) → get_or d2 i 0 < 256)
      → (encode m ≡ take end.byte d2) × (end.byte ≤ length d2)
  unfolding encode
  closed {n} {d2} h e c b =
      let g = counts.put 0 zeros ++ body_bits m in
      let st = put_stood w h in
      let lg : length ((counts ⊗ body (counts_of m)).put 0 (zeros, body_of m)) ≡ 192 + length (body_bits m) = ap length (bits_with m zeros) ∙ long_with m zeros in
      let k : end.byte ≡ (0 + length ((counts ⊗ body (counts_of m)).put 0 (zeros, body_of m))) / 8 = ap (λ (q : Place). q.byte) st.ends in
      let k8 : 8 * end.byte ≡ 192 + length (body_bits m) = omega (arith, body_whole m) in
      let le : end.byte ≤ length d2 = omega (arith, st.began.ends, w.step.same, c.same) in
      let l = drop (at start + length ((counts ⊗ body (counts_of m)).put 0 (zeros, body_of m))) (bits_of d1) in
      let was : bits_of d1 ≡ counts.put 0 zeros ++ (body_bits m ++ l) = stood_all st ∙ ap (λ (x : Bits). x ++ l) (bits_with m zeros) ∙ append_assoc (counts.put 0 zeros) (body_bits m) l in
      let cs : counts.put 0 (counts_by n) ≡ counts.put 0 (counts_of m) = ap (λ (x : Counts). counts.put 0 x) e ∙ low_bits (counts_of m) in
      let is : bits_of d2 ≡ model.put 0 m ++ l = c.bits (body_bits m ++ l) was ∙ ap (λ (x : Bits). x ++ (body_bits m ++ l)) cs ∙ sym (append_assoc (counts.put 0 (counts_of m)) (body_bits m) l) ∙ ap (λ (x : Bits). x ++ l) (sym (model_bits m)) in
      let front : model.put 0 m ≡ bits_of (take end.byte d2) = sym (take_at (model.put 0 m) l (8 * end.byte) (model_long m ∙ sym k8)) ∙ ap (take (8 * end.byte)) (sym is) ∙ bits_take end.byte d2 le in
      (ap (λ (x : Bits). bytes_of x) front ∙ whole_bytes (each_take end.byte (bytes_of_lem d2 b)), le)

  short : inside (length d1) end ≡ false → length d < length (encode m)
  short h =
      let f = counts ⊗ body (counts_of m) in
      let a : Counts × Body = (zeros, body_of m) in
      let n = size_of (view d start) in
      let s : Step d start (λ b. b ▷ f.put n a) d1 end = said w.step _ refl in
      let fits : Fits (length d) start 0 = record { bit = omega arith; ends = omega arith } in
      let e : n ≡ 0 = ap size_of (view_in d start fits) in
      let lt : 8 * length d < at start + length (f.put n a) = room_none (length d) start _ (overran (f.put n a) s h) (omega arith) in
      let lt' : 8 * length d < at start + length (f.put 0 a) = rw e at lt in
      omega (arith, encode_long m, ap length (bits_with m zeros), long_with m zeros, body_whole m)

  leaves_short : {out : List ℕ} → inside (length d1) end ≡ false → out ≡ replicate (length d1) 0 → Leaves (length d) (in_room (length d) (encode m)) (Err NoRoom) out
  unfolding in_room
  leaves_short {out} h e =
      let i : in_room (length d) (encode m) ≡ refused 9 = rw (lt-leb _ _ (short h)) in
      subst (λ (a : Answer). Leaves (length d) a (Err NoRoom) out) (sym i) (record { refusal = refl; count = refl; given = e ∙ ap (λ (k : ℕ). replicate k 0) w.step.same })

  leaves_written : {n : P.Counts} {d2 out : List ℕ} → inside (length d1) end ≡ true → counts_by n ≡ low (counts_of m) → Closes n d1 d2 → ((i : ℕ) → get_or d2 i 0 < 256)
      → out ≡ cleared end.byte d2 → Leaves (length d) (in_room (length d) (encode m)) (Ok end.byte) out
  unfolding in_room
  leaves_written {n} {d2} {out} h e c b o =
      let (is, le) = closed h e c b in
      let l = take end.byte d2 in
      let k : length l ≡ end.byte = length-take-le end.byte d2 le in
      let same : length d2 ≡ length d = c.same ∙ w.step.same in
      let i : in_room (length d) (encode m) ≡ gives l = rw is (rw (le-leb (length l) (length d) (omega arith))) in
      subst (λ (a : Answer). Leaves (length d) a (Ok end.byte) out) (sym i) (record { refusal = refl; count = sym k; given = o ∙ rw (k, same) })

-- ---- the tree is not refused

not_many : (s : Text) → tree_refusal s ≡ 0 → length (records s) ≤ most_elements
unfolding tree_refusal
not_many s e = by_tests (layout s) (every? utf8? (records s)) (ltb most_elements (length (records s))) refl e
  where
    by_tests : (a b c : Bool) → ltb most_elements (length (records s)) ≡ c
        → ◌≡◌ {A = ℕ} (if not a then 1 else if not b then 2 else if c then 3 else if not (project? (records s)) then 4 else if some? too_long (below_root (records s)) then 5 else 0) 0
        → length (records s) ≤ most_elements
    by_tests false b c h k = absurd (omega (arith, k))
    by_tests true false c h k = absurd (omega (arith, k))
    by_tests true true true h k = absurd (omega (arith, k))
    by_tests true true false h k = ltb-false most_elements (length (records s)) h

few_of : (s : Text) → tree_refusal s ≡ 0 → Few (element_at s 0)
few_of s h = record {
  calendars = omega (arith, not_many s h, calendars_most (records s));
  resources = omega (arith, not_many s h, resources_most (records s));
}

reads_on : (s : Text) (room : ℕ) → tree_refusal s ≡ 0 → read_answer s room ≡ in_room room (encode (model_of (element (records s))))
unfolding read_answer
reads_on s room e = rw e

reads_not : (s : Text) (room : ℕ) → 0 < tree_refusal s → read_answer s room ≡ refused (tree_refusal s)
unfolding read_answer
reads_not s room h = rw (lt-ltb 0 (tree_refusal s) h)

module _ {s : Text} {d d1 : List ℕ} {r : Sections} (w : AllPut (element_at s 0) d d1 r) where
  pub fills_short : {out : List ℕ} → inside (length d1) r.next ≡ false → out ≡ replicate (length d1) 0 → A.Fills s d out (Err NoRoom)
  fills_short {out} h e = record {
    fills = λ k.
        subst (λ (a : Answer). Leaves (length d) a (Err NoRoom) out) (sym (reads_on s (length d) k))
        (leaves_short (model_of (element_at s 0)) (w.puts (few_of s k)) h e);
  }

  pub fills_written : {d2 out : List ℕ} → inside (length d1) r.next ≡ true → Closes r.counts d1 d2 → ((i : ℕ) → get_or d2 i 0 < 256) → out ≡ cleared r.next.byte d2
      → A.Fills s d out (Ok r.next.byte)
  fills_written {d2} {out} h c b e = record {
    fills = λ k.
        let f = few_of s k in
        subst (λ (a : Answer). Leaves (length d) a (Ok r.next.byte) out) (sym (reads_on s (length d) k))
        (leaves_written (model_of (element_at s 0)) (w.puts f) h (w.counts f h) c b e);
  }

-- the answer for a tree that is refused, and for one that is read

above_zero : (e : Refusal) → 0 < refusal_number e
above_zero refusal.Layout = omega arith
above_zero refusal.Utf8 = omega arith
above_zero refusal.TooMany = omega arith
above_zero refusal.NoProject = omega arith
above_zero refusal.TooLong = omega arith
above_zero refusal.NoModel = omega arith
above_zero refusal.ListBroken = omega arith
above_zero refusal.Outside = omega arith
above_zero refusal.NoRoom = omega arith

module _ (s : Text) (model : List ℕ) {out : List ℕ} where
  pub leaves_refused : (e : Refusal) → refusal_number e ≡ tree_refusal s → out ≡ replicate (length model) 0 → Leaves (length model) (read_answer s (length model)) (Err e) out
  leaves_refused e h o =
      let p : 0 < tree_refusal s = rw (← h) (above_zero e) in
      let k : read_answer s (length model) ≡ refused (refusal_number e) = reads_not s (length model) p ∙ ap refused (sym h) in
      subst (λ (a : Answer). Leaves (length model) a (Err e) out) (sym k) (record { refusal = refl; count = refl; given = o })
