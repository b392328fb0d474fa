-- The last of a list that passes a test, and its row, found from the front on. Assumes nothing.
use Rattle.std.proofs.Common.{◌≡◌, ℕ, suc, ◌+◌, ◌-◌, ◌%◌, Bool, true, false, ltb, List, [], ◌∷◌, map, take, sym, refl, ap, subst, ◌∙◌, add-one, arith}
use Rattle.std.specs.Prelude.{Option, Some, None, IfSome}
use Rattle.std.specs.Iterator.{YieldsThen}
use Rattle.std.specs.Iterator.Adapters.{enumerate_steps}
use Rattle.std.specs.List.{enumerate_from}
use Rattle.std.specs.Option.{option_map}
use Rattle.std.specs.declared.iter.Enumerate.{Enumerate}
use Rattle.definition.specs.Base.{◌>>=◌, ◌or_else◌, when, find_last, numbered}
use Rattle.definition.specs.Text.{Text}
use Rattle.definition.specs.Tree.{Element}
use Rattle.definition.specs.Task.{level_of, row_of, parent_of}
use Rattle.tree.specs.Place.{meaning}
use Rattle.tree.specs.declared.element.Element.{Element as Place}
use Rattle.rows.specs.Rows.{has_uid, found_meaning, calendar_meaning}
use Rattle.rows.specs.Walks.{Gives}

-- ---- the row of the last that passes, counted from a row on, by what a row gives

unfoldable pub row_by : {A : Type 0} → (ℕ → ℕ) → (A → Bool) → ℕ → List A → Option ℕ
row_by f p n [] = None
row_by f p n (x ∷ l) = row_by f p (n + 1) l or_else when (p x) (f n)

-- the row itself, and as so many bits hold it
abbrev pub itself : ℕ → ℕ
itself n = n

abbrev pub within : ℕ → ℕ → ℕ
within m n = n % m

module _ {A : Type 0} (f : ℕ → ℕ) (p : A → Bool) where
  last_row : (n : ℕ) (l : List A) → (find_last (λ (x : ℕ × A). p x.1) (numbered n l) >>= λ x. Some (f x.0)) ≡ row_by f p n l
  unfolding find_last numbered row_by
  last_row n [] = refl
  last_row n (x ∷ l) = by (find_last (λ (x : ℕ × A). p x.1) (numbered (suc n) l)) (p x) (last_row (suc n) l ∙ ap (λ (k : ℕ). row_by f p k l) (omega arith))
    where
      by : (o : Option (ℕ × A)) (t : Bool) {k : Option ℕ} → (o >>= λ x. Some (f x.0)) ≡ k → (o or_else when t (n, x) >>= λ x. Some (f x.0)) ≡ (k or_else when t (f n))
      by None true e = rw (← e)
      by None false e = rw (← e)
      by (Some y) t e = rw (← e)

map_rows : {A B : Type 0} (f : A → B) (p : B → Bool) (n : ℕ) (l : List A) → row_by itself p n (map f l) ≡ row_by itself (λ x. p (f x)) n l
unfolding row_by
map_rows f p n [] = refl
map_rows f p n (x ∷ l) = rw (map_rows f p (n + 1) l)

some_then : {A B : Type 0} (f : A → ℕ) (g : ℕ → B) (o : Option A) → ((o >>= λ x. Some (f x)) >>= λ n. Some (g n)) ≡ (o >>= λ x. Some (g (f x)))
some_then f g None = refl
some_then f g (Some x) = refl

row_within : (m : ℕ) (es : List Element) (u : Text) → (row_of es u >>= λ n. Some (n % m)) ≡ row_by (within m) (has_uid u) 0 es
unfolding row_of
row_within m es u = some_then (λ (x : ℕ × Element). x.0) (within m) _ ∙ last_row (within m) (has_uid u) 0 es

parent_of_lem : (es : List Element) (k : ℕ) → parent_of (map level_of es) k ≡ row_by itself (λ e. ltb (level_of e) k) 0 es
unfolding parent_of
parent_of_lem es k = last_row itself (λ n. ltb n k) 0 (map level_of es) ∙ map_rows level_of (λ n. ltb n k) 0 es

-- ---- the loop: of the list that is left, else the last so far

pub record RowIn {A : Type 0} (f : ℕ → ℕ) (p : A → Bool) (t : Option ℕ) (n : ℕ) (l : List A) (found : Option ℕ) : Type 0 where
  pub is : t ≡ (row_by f p n l or_else found)

none_else : {A : Type 0} (o : Option A) → (o or_else None) ≡ o
none_else None = refl
none_else (Some a) = refl

else_else : {A : Type 0} (a b c : Option A) → (a or_else b or_else c) ≡ (a or_else (b or_else c))
else_else None b c = refl
else_else (Some x) b c = refl

module _ {A : Type 0} {f : ℕ → ℕ} {p : A → Bool} {t : Option ℕ} where
  row_all : {l : List A} → t ≡ row_by f p 0 l → RowIn f p t 0 l None
  row_all h = record { is = h ∙ sym (none_else _) }

  module _ {n : ℕ} {l : List A} {found : Option ℕ} (h : RowIn f p t n l found) where
    pub row_turn : {x : A} {k : List A} → l ≡ x ∷ k → {b : Bool} → b ≡ p x → {here : Option ℕ} → here ≡ when b (f n) → {found' : Option ℕ} → found' ≡ (here or_else found) → {n' : ℕ} → n' ≡ n + 1
        → RowIn f p t n' k found'
    unfolding row_by
    row_turn {x} {k} i {b} z w {found'} j m =
        let o : found' ≡ (when (p x) (f n) or_else found) = j ∙ ap (λ o. o or_else found) (w ∙ ap (λ (t : Bool). when t (f n)) z) in
        let a : (row_by f p n l or_else found) ≡ (row_by f p (n + 1) k or_else (when (p x) (f n) or_else found)) = rw i (else_else (row_by f p (n + 1) k) (when (p x) (f n)) found) in
        record { is = h.is ∙ a ∙ ap (λ o. row_by f p (n + 1) k or_else o) (sym o) ∙ ap (λ (j : ℕ). row_by f p j k or_else found') (sym m) }

    pub row_end : l ≡ [] → found ≡ t
    unfolding row_by
    row_end i = sym (h.is ∙ rw i)

pub within_begin : (m : ℕ) (es : List Element) (u : Text) {n : ℕ} → n ≡ 0 → RowIn (within m) (has_uid u) (row_of es u >>= λ n. Some (n % m)) n es None
within_begin m es u z = rw z (row_all (row_within m es u))

pub parents_begin : (row : ℕ) (es : List Element) (k : ℕ) {l : List Element} → es ≡ l → RowIn itself (λ e. ltb (level_of e) k) (parent_of (map level_of (take row es)) k) 0 (take (row - 0) l) None
parents_begin row es k {l} e =
    let z : row ≡ row - 0 = omega arith in
    let p : Element → Bool = λ e. ltb (level_of e) k in
    row_all (parent_of_lem (take row es) k ∙ ap (λ (l : List Element). row_by itself p 0 (take row l)) e ∙ ap (λ (i : ℕ). row_by itself p 0 (take i l)) z)

-- ---- the last itself

pub record LastIn (p : Element → Bool) (t : Option Element) (l : List Element) (found : Option Place) : Type 0 where
  pub is : t ≡ (find_last p l or_else found_meaning found)

pub last_begin : (p : Element → Bool) {es l : List Element} → es ≡ l → LastIn p (find_last p es) l None
unfolding found_meaning
last_begin p e = record { is = ap (find_last p) e ∙ sym (none_else _) }

found_when : (t : Bool) (x : Place) (found : Option Place) → found_meaning (when t x or_else found) ≡ (when t (meaning x) or_else found_meaning found)
unfolding found_meaning
found_when true x found = refl
found_when false x found = refl

module _ {p : Element → Bool} {t : Option Element} {l : List Element} {found : Option Place} (h : LastIn p t l found) where
  pub last_turn : (x : Place) {k : List Element} → l ≡ meaning x ∷ k → {b : Bool} → b ≡ p (meaning x) → {here : Option Place} → here ≡ when b x → {found' : Option Place} → found' ≡ (here or_else found) → LastIn p t k found'
  unfolding find_last
  last_turn x {k} i {b} z w {found'} j =
      let f : found_meaning found' ≡ (when (p (meaning x)) (meaning x) or_else found_meaning found) = ap found_meaning (j ∙ ap (λ o. o or_else found) w) ∙ found_when b x found ∙ rw z in
      let a : (find_last p l or_else found_meaning found) ≡ (find_last p k or_else (when (p (meaning x)) (meaning x) or_else found_meaning found)) = rw i (else_else (find_last p k) (when (p (meaning x)) (meaning x)) (found_meaning found)) in
      record { is = h.is ∙ a ∙ ap (λ o. find_last p k or_else o) (sym f) }

  pub last_end : l ≡ [] → found_meaning found ≡ t
  unfolding find_last
  last_end i = sym (h.is ∙ rw i)

-- what is found is of the same tree
pub found_there : (s : Text) (t : Bool) (x : Place) → x.tree.now ≡ s → (found : Option Place) → IfSome found (λ e. e.tree.now ≡ s) → {here : Option Place} → here ≡ when t x → {found' : Option Place} → found' ≡ (here or_else found) → IfSome found' (λ e. e.tree.now ≡ s)
found_there s true x e found h w j = rw (j, w) e
found_there s false x e found h w j = rw (j, w) h

-- ---- the first that passes, with its row

pub numbered_is : {A : Type 0} (n : ℕ) (l : List A) → enumerate_from n l ≡ numbered n l
unfolding numbered
numbered_is n [] = refl
numbered_is n (x ∷ l) = ap (λ k. (n, x) ∷ k) (numbered_is (n + 1) l ∙ ap (λ (k : ℕ). numbered k l) (add-one n))

pub row_meaning : (o : Option (ℕ × Place)) → calendar_meaning o ≡ option_map (λ x. (x.0, meaning x.1)) o
unfolding calendar_meaning
row_meaning None = refl
row_meaning (Some x) = refl

-- what an iterator of a tree gives is of the tree
module _ {S : Type 0} (of : S → Text → Type 0) (left : S → List Element) (t : Text) (u : Enumerate S) (r : Option (ℕ × Place)) where
  pub numbered_there : (xs : List (ℕ × Place)) (s : Enumerate S) → of s.iter t → YieldsThen (enumerate_steps (Gives of left)) s xs r u → IfSome r (λ x. x.1.tree.now ≡ t)
  numbered_there [] s h y = by r (y.2)
    where
      by : (r : Option (ℕ × Place)) → enumerate_steps (Gives of left) y.0 r u → IfSome r (λ x. x.1.tree.now ≡ t)
      by None k = tt
      by (Some x) k = (k.0.1 t (subst (λ (s : Enumerate S). of s.iter t) y.1 h)).0.tree
  numbered_there (x ∷ xs) s h y = numbered_there xs y.1.0 (y.1.1.0.1 t h).1 (y.0, y.1.2, y.2)
