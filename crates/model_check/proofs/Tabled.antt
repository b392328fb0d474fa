-- Keys in tables: how a table is filled, and what its chains tell. Assumes nothing.
use Rattle.std.specs.Prelude.{if◌then◌else◌}
use mathlib.Core.Path.{◌≡◌, refl, sym, ap, subst, ◌∙◌}
use mathlib.Core.Bool.{Bool, true, false}
use mathlib.Core.List.{List, ◌∷◌, map, []}
use Rattle.std.specs.Prelude.{Option, Some, None, All, MatchBool}
use Rattle.std.specs.List.{AllWithin, HoldsAt, list_any}
use Rattle.std.proofs.lemmas.List.Folds.{list_any_at, list_any_none}
use Prim.Native.Nat.{ℕ, zero, suc, ◌+◌, ◌%◌, ◌^◌, ◌≤◌, ◌<◌}
use native.Mathlib.Nat.{mod-eq_of_lt}
use native.Mathlib.Omega.{arith}
use borrow.Author.Tests.{eqb-true, eqb-false, eq-eqb, ne_eqb}
use lib.Dec.{eqb}
use lib.ListN.{length, get_or, take, drop, length-map}
use lib.Seq.{take-length}
use Rattle.definition.specs.Base.{given, find, some?}
use Rattle.definition.specs.Format.{whole}
use Rattle.index.specs.declared.Table.{Table}
use Rattle.index.specs.Chains.{table_of, zeros, added, next_at, first_of, next_of, place_of, up_to, chain}
use Rattle.index.specs.Last.{find_none}
use Rattle.index.specs.Law.{table_placed, chain_none, below_small, first_less}
use Rattle.index.proofs.Law.{indexed_none, indexed_by, indexed_same, find_chain, find_next}
use Rattle.index.specs.Frame.{same_zeros}
use Rattle.bits.specs.declared.Place.{Place}
use Rattle.model.specs.Answers.{rest_fits}
use Rattle.model.specs.Passes.{pass_read, stood}
use Rattle.model.specs.Splits.{Step}
use Rattle.model.specs.Sections.{byte_at, byte_place, byte_rest}
use Rattle.model.specs.declared.records.Kind.{Kind}
use Rattle.model_check.specs.Kinds.{Item, format_of, Run}
use Rattle.model_check.specs.Keys.{Key, no_key, same_key, hash_key, KeyAt, Keyed}
use Rattle.model_check.specs.Tables.{KeysIn, KeyTable, Emptied, EmptyTable, EmptyAt}
use Rattle.model_check.proofs.Scan.{Along, starts, goes}
use Rattle.model_check.proofs.Twins.{key_is, some_below}

-- ---- the table is filled

-- no item stops the walk
abbrev pub never : {A : Type 0} → ℕ → A → List A → Bool
never i x l = false

-- where the walk stands, at the record of row i, and the rows before it
pub record Filling (kind : Kind) (lead : ℕ) (s : List ℕ) (key : Item kind → Key) (xs : List (Item kind)) (end : ℕ) (t : Table) (w : List ℕ) (q : Place) (i : ℕ) : Type 0 where
  pub along : Along kind s t.rows xs end never true i q
  pub keys : KeysIn lead s (map key xs) t i w

nth_key : {A : Type 0} (key : A → Key) (xs : List A) (i : ℕ) {x : A} {l : List A} → drop i xs ≡ x ∷ l → get_or (map key xs) i no_key ≡ key x
nth_key key [] zero {x} {l} e = let z : [] ≡ x ∷ l = e in cc
nth_key key [] (suc i) {x} {l} e = let z : [] ≡ x ∷ l = e in cc
nth_key key (y ∷ xs) zero {x} {l} e = let z : y ∷ xs ≡ x ∷ l = e in cc
nth_key key (y ∷ xs) (suc i) e = nth_key key xs i e

-- a function with one value more
abbrev grown : (ℕ → ℕ) → ℕ → ℕ → ℕ → ℕ
grown g n v r = if eqb r n then v else g r

grown_at : (g : ℕ → ℕ) (n v : ℕ) → v ≡ grown g n v n
grown_at g n v = rw (eq-eqb n n refl)

grown_below : (g : ℕ → ℕ) (n v r : ℕ) → r < n → g r ≡ grown g n v r
grown_below g n v r h = rw (ne_eqb r n (omega arith))

-- a table that was made, and cleared
pub emptied : {s : List ℕ} (w : List ℕ) {m : Option Table} {at n : ℕ} {t : Table} {w₂ : List ℕ} → length s < 2 ^ 32 → m ≡ table_of (length w) at n → m ≡ Some t
    → w₂ ≡ zeros w t.at t.rows → EmptyTable s at n w w₂ t
emptied w {at = at} {n} {t} small e f z =
    let p = table_placed (length w) at n (sym f ∙ e) in
    record { small = small; is = p.is; empty = λ f g. rw z (indexed_none f g w p.fits); stays = λ u a. rw z (same_zeros t w a) }

pub no_room : {t : Table} {A : Type 0} → None ≡ Some t → A
no_room e = let y : ◌≡◌ {A = ℕ} 0 1 = cc in absurd (omega arith)

pub one_made : {s : List ℕ} {at n : ℕ} {w w₂ : List ℕ} {t : Table} → EmptyTable s at n w w₂ t → EmptyAt s at n w w₂ (Some t)
one_made {s} {at} {n} {w} {w₂} {t} x = record { ready = λ u e. let z : t ≡ u = cc in subst (EmptyTable s at n w w₂) z x; none = λ e. no_room (sym e) }

module _ {kind : Kind} {lead : ℕ} {s : List ℕ} {key : Item kind → Key} {xs : List (Item kind)} {end : ℕ} {t : Table} {w : List ℕ} {q : Place} where
  pub fill_starts : Run kind s q t.rows xs end → Emptied t w → Filling kind lead s key xs end t w q 0
  fill_starts r e =
      let a = starts never true r in
      record {
        along = a;
        keys = record {
          places = λ r. 0;
          indexed = e (λ r. hash_key (get_or (map key xs) r no_key)) (λ r. 0);
          full = sym (length-map xs key ∙ a.size);
          stands = λ r h. absurd (omega arith);
        };
      }

  module _ {i : ℕ} (f : Filling kind lead s key xs end t w q i) (k : Keyed kind lead s key) (small : length s < 2 ^ 32) (even : q.bit % 8 ≡ 0) (l : i < t.rows) where
    at_byte : (q ≡ byte_at q.byte) × (q.byte < 2 ^ 32)
    at_byte =
        let a = f.along in
        let e = (stood (byte_rest s end a.ends) (pass_read a.left)).1 in
        (byte_place s q e even, omega (arith, (rest_fits s q e).ends))

    pub fill_goes : {w₂ : List ℕ} {r : Place} {h p : ℕ} → ((k : Key) → KeyAt lead s q k → h ≡ hash_key k) → p ≡ q.byte % 2 ^ 32
        → w₂ ≡ added w t i h p → Step (whole (format_of kind)) s q r (byte_at end) t.rows i xs → Filling kind lead s key xs end t w₂ r (i + 1)
    fill_goes {h = h} hash at_p e u =
        let z = nth_key key xs i u.is in
        let g = f.keys.places in
        let here : KeyAt lead s (byte_at q.byte) (get_or (map key xs) i no_key) = rw (z, ← at_byte.0) (k.first u.stands) in
        record {
          along = goes never true f.along u refl;
          keys = record {
            places = grown g i q.byte;
            indexed = indexed_by (indexed_same f.keys.indexed (λ r m. refl) (grown_below g i q.byte)) l (hash _ (k.first u.stands) ∙ ap hash_key (sym z))
                (at_p ∙ mod-eq_of_lt at_byte.1 ∙ grown_at g i q.byte) e;
            full = f.keys.full;
            stands = λ r m. by here r m (eqb r i) refl;
          };
        }
      where
        by : KeyAt lead s (byte_at q.byte) (get_or (map key xs) i no_key) → (r : ℕ) → r < i + 1 → (b : Bool) → eqb r i ≡ b
            → KeyAt lead s (byte_at (if b then q.byte else f.keys.places r)) (get_or (map key xs) r no_key)
        by here r m true e = rw (eqb-true r i e) here
        by here r m false e = let z = eqb-false r i e in f.keys.stands r (omega (arith, z))

  pub filled : {i : ℕ} → Filling kind lead s key xs end t w q i → i ≡ t.rows → KeyTable lead s (map key xs) t w
  filled f e = let z = e ∙ f.keys.full in rw (← z) f.keys

-- ---- a walk over a chain

-- `any`, where the test is known of the rows below n alone
pub any_below : (p : ℕ → Bool) (n : ℕ) (l : List ℕ) → All (λ r. r < n) l → (b : Bool)
    → MatchBool b ((k : ℕ) × (k < length l) × HoldsAt (λ r. r < n → true ≡ p r) l k) (AllWithin (λ r. r < n → false ≡ p r) l 0 (length l)) → b ≡ list_any p l
any_below p n l f true h = sym (list_any_at p l h.0 0 h.1 (sym (h.2 0 (f h.0 0 h.1))))
any_below p n l f false h = sym (list_any_none p l (λ k d i. sym (h k d (omega arith) i (f k d i))))

-- ---- what a full table tells

module _ {lead : ℕ} {s : List ℕ} {ks : List Key} {t : Table} {w : List ℕ} (x : KeyTable lead s ks t w) where
  pub key_there : (r b : ℕ) → r < length ks → b ≡ place_of w t r → KeyAt lead s (byte_at b) (get_or ks r no_key)
  key_there r b h e = rw (e ∙ x.indexed.places r h) (x.stands r h)

  alike : (k : Key) (r : ℕ) → same_key k (get_or ks r no_key) ≡ true → hash_key (get_or ks r no_key) ≡ hash_key k
  alike k r h = ap hash_key (sym (key_is k (get_or ks r no_key) h))

  pub first_in : (h : ℕ) {at : Option ℕ} → at ≡ first_of w t h → up_to at ≤ length ks
  first_in h e = rw e (omega (arith, first_less w t h, x.full))

  pub next_in : {i : ℕ} {at : Option ℕ} → i < length ks → at ≡ next_of w t i → up_to at ≤ length ks
  next_in {i} h e = let z : up_to (next_of w t i) ≤ i = below_small i (get_or w (next_at t i) 0) in rw e (omega arith)

  -- some key of the chain, and of all
  pub some_key : (k : Key) {at : Option ℕ} {h : ℕ} → at ≡ first_of w t h → h ≡ hash_key k
      → given (find (λ r. same_key k (get_or ks r no_key)) (chain w t at)) ≡ some? (same_key k) ks
  some_key k e f =
      let p : ℕ → Bool = λ r. same_key k (get_or ks r no_key) in
      rw (e, f) (ap given (find_chain x.indexed p (hash_key k) (λ r h. alike k r)) ∙ some_below (same_key k) ks (length ks) (omega arith) ∙ ap (some? (same_key k)) (take-length ks))

  -- some key before that of a row
  pub some_twin : (i : ℕ) {at : Option ℕ} → i < length ks → at ≡ next_of w t i
      → given (find (λ r. same_key (get_or ks i no_key) (get_or ks r no_key)) (chain w t at)) ≡ some? (same_key (get_or ks i no_key)) (take i ks)
  some_twin i h e =
      let k = get_or ks i no_key in
      let p : ℕ → Bool = λ r. same_key k (get_or ks r no_key) in
      rw e (ap given (find_next x.indexed p i h (λ r l. alike k r)) ∙ some_below (same_key k) ks i (omega arith))

  pub lone : (i : ℕ) {at : Option ℕ} → i < length ks → at ≡ next_of w t i → at ≡ None → false ≡ some? (same_key (get_or ks i no_key)) (take i ks)
  lone i {at} h e f =
      let p : ℕ → Bool = λ r. same_key (get_or ks i no_key) (get_or ks r no_key) in
      ap given (sym (find_none p) ∙ ap (find p) (sym (chain_none w t) ∙ ap (chain w t) (sym f))) ∙ some_twin i h e
