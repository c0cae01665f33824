-- One list, and the nodes that it leads through.
use Rattle.std.proofs.Common.{◌≡◌, ◌≢◌, ◌≤◌, ℕ, zero, suc, Bool, true, false, ◌||◌, List, [], ◌∷◌, ◌++◌, length, Option, None, Some, nat_eq, refl, sym, ap, ◌∙◌, subst, inl, inr, ◌⊎◌, arith}
use Rattle.std.proofs.lemmas.Bool.Decides.{nat_tests}
use Rattle.index_list.specs.declared.nodes.Node.{Node}
use Rattle.index_list.specs.Many.{first_of, last_of, has, before, without, after_of, item_of}
use Rattle.index_list.specs.Linked.{IsChain, with_next, with_prev, walk, stepped}

pub same_nat : (n : ℕ) → nat_eq n n ≡ true
same_nat n = grind (arith, nat_tests)

pub other_nat : (m n : ℕ) → m ≢ n → nat_eq m n ≡ false
other_nat m n ne = grind (arith, nat_tests)

pub nat_cases : (m n : ℕ) → (m ≡ n) ⊎ (m ≢ n)
nat_cases zero zero = inl refl
nat_cases zero (suc n) = inr (λ e. omega arith)
nat_cases (suc m) zero = inr (λ e. omega arith)
nat_cases (suc m) (suc n) = elim (nat_cases m n) [ inl e ↦ inl (ap suc e) | inr ne ↦ inr (λ e. ne (omega arith)) ]

pub clash : {A : Type 0} (b : Bool) → b ≡ true → b ≡ false → A
clash true t f = absurd (cc)
clash false t f = absurd (cc)

pub some_inj : {A : Type 0} (x y : A) → Some x ≡ Some y → x ≡ y
some_inj x y e = cc

pub or_cases : (a b : Bool) → (a || b) ≡ true → (a ≡ true) ⊎ (b ≡ true)
or_cases true b h = inl refl
or_cases false b h = inr h

pub or_no : (a b : Bool) → (a || b) ≡ false → (a ≡ false) × (b ≡ false)
or_no true b h = absurd (cc)
or_no false b h = (refl, h)

pub eq_from : (m n : ℕ) → nat_eq m n ≡ true → m ≡ n
eq_from m n h = grind (arith, nat_tests)

pub ne_from : (m n : ℕ) → nat_eq m n ≡ false → m ≢ n
ne_from m n h = λ e. clash (nat_eq m n) (ap (nat_eq m) (sym e) ∙ same_nat m) h

module _ {T : Type 0} where
  pub has_head : (e : ℕ × T) (es : List (ℕ × T)) → has e.0 (e ∷ es) ≡ true
  has_head e es = rw (same_nat e.0) refl

  pub has_later : (p : ℕ) (e : ℕ × T) (es : List (ℕ × T)) → has p es ≡ true → has p (e ∷ es) ≡ true
  has_later p e es h = elim (nat_cases p e.0) [ inl q ↦ rw (q, same_nat e.0) refl | inr ne ↦ rw (other_nat p e.0 ne) h ]

  pub has_cases : (p : ℕ) (e : ℕ × T) (es : List (ℕ × T)) → has p (e ∷ es) ≡ true → (p ≡ e.0) ⊎ (has p es ≡ true)
  has_cases p e es h = elim (or_cases (nat_eq p e.0) (has p es) h) [ inl q ↦ inl (eq_from p e.0 q) | inr q ↦ inr q ]

  pub has_no : (p : ℕ) (e : ℕ × T) (es : List (ℕ × T)) → has p (e ∷ es) ≡ false → (p ≢ e.0) × (has p es ≡ false)
  has_no p e es h = let q = or_no (nat_eq p e.0) (has p es) h in (ne_from p e.0 q.0, q.1)

  pub has_not : (p : ℕ) (e : ℕ × T) (es : List (ℕ × T)) → p ≢ e.0 → has p es ≡ false → has p (e ∷ es) ≡ false
  has_not p e es ne h = rw (other_nat p e.0 ne) h

  -- either it is there or not
  pub has_either : (p : ℕ) (es : List (ℕ × T)) → (has p es ≡ true) ⊎ (has p es ≡ false)
  has_either p es = elim (has p es) as (λ b. (b ≡ true) ⊎ (b ≡ false)) [ true ↦ inl refl | false ↦ inr refl ]

  pub has_append : (p : ℕ) (a c : List (ℕ × T)) → has p (a ++ c) ≡ (has p a || has p c)
  has_append p [] c = refl
  has_append p (e ∷ a) c = elim
      (nat_cases p e.0) [ inl q ↦ rw (q, same_nat e.0) refl | inr ne ↦ rw (other_nat p e.0 ne) (has_append p a c) ]

  pub absent_append : (p : ℕ) (a c : List (ℕ × T)) → has p a ≡ false → has p c ≡ false → has p (a ++ c) ≡ false
  absent_append p a c h k = has_append p a c ∙ (rw (h, k) refl)

  pub absent_parts : (p : ℕ) (a c : List (ℕ × T)) → has p (a ++ c) ≡ false → (has p a ≡ false) × (has p c ≡ false)
  absent_parts p a c h = or_no (has p a) (has p c) (sym (has_append p a c) ∙ h)

  pub first_in : (es : List (ℕ × T)) (p : ℕ) → first_of es ≡ Some p → has p es ≡ true
  first_in [] p h = absurd (cc)
  first_in (e ∷ es) p h = let q : e.0 ≡ p = cc in subst (λ x. has x (e ∷ es) ≡ true) q (has_head e es)

  pub last_in : (q : ℕ) (a : List (ℕ × T)) (p : ℕ) → last_of (Some q) a ≡ Some p → (p ≡ q) ⊎ (has p a ≡ true)
  last_in q [] p h = inl cc
  last_in q (e ∷ a) p h = elim (last_in e.0 a p h) [
    | inl w ↦ inr (subst (λ x. has x (e ∷ a) ≡ true) (sym w) (has_head e a))
    | inr w ↦ inr (has_later p e a w)
  ]

  pub last_append : (q : Option ℕ) (a c : List (ℕ × T)) → last_of q (a ++ c) ≡ last_of (last_of q a) c
  last_append q [] c = refl
  last_append q (e ∷ a) c = last_append (Some e.0) a c

  pub last_some : (q : ℕ) (a : List (ℕ × T)) → (x : ℕ) × (last_of (Some q) a ≡ Some x)
  last_some q [] = (q, refl)
  last_some q (e ∷ a) = last_some e.0 a

  pub last_none_in : (a : List (ℕ × T)) (p : ℕ) → last_of None a ≡ Some p → has p a ≡ true
  last_none_in [] p h = absurd (cc)
  last_none_in (e ∷ a) p h = elim (last_in e.0 a p h) [
    | inl w ↦ subst (λ x. has x (e ∷ a) ≡ true) (sym w) (has_head e a)
    | inr w ↦ has_later p e a w
  ]

  -- a list's place has a node of that list
  pub node_of : (g : ℕ → Option (Node T)) (i : ℕ) (prev : Option ℕ) (es : List (ℕ × T)) (p : ℕ) → IsChain g i prev es → has p es ≡ true
      → (n : Node T) × (g p ≡ Some n) × (n.list ≡ i)
  node_of g i prev [] p c h = absurd (cc)
  node_of g i prev (e ∷ es) p c h = elim (has_cases p e es h) [
    | inl q ↦ (record { item = e.1; list = i; prev = prev; next = first_of es }, ap g q ∙ c.0, refl)
    | inr q ↦ node_of g i (Some e.0) es p c.2 q
  ]

  pub absent : (g : ℕ → Option (Node T)) (i : ℕ) (prev : Option ℕ) (es : List (ℕ × T)) (p : ℕ) → IsChain g i prev es → g p ≡ None
      → has p es ≡ false
  absent g i prev es p c z = elim (has_either p es) [
    | inl h ↦ let n = node_of g i prev es p c h in let q : Some n.0 ≡ None = sym n.1 ∙ z in absurd (cc)
    | inr h ↦ h
  ]

  pub kept : (g g' : ℕ → Option (Node T)) (i : ℕ) (prev : Option ℕ) (es : List (ℕ × T)) → IsChain g i prev es
      → ((p : ℕ) → has p es ≡ true → g' p ≡ g p) → IsChain g' i prev es
  kept g g' i prev [] c h = tt
  kept g g' i prev (e ∷ es) c h = (h e.0 (has_head e es) ∙ c.0, c.1, kept g g' i (Some e.0) es c.2 (λ p q. h p (has_later p e es q)))

  -- what stands behind the first items is a chain from the last of these on
  pub behind : (g : ℕ → Option (Node T)) (i : ℕ) (prev : Option ℕ) (a c : List (ℕ × T)) → IsChain g i prev (a ++ c)
      → IsChain g i (last_of prev a) c
  behind g i prev [] c h = h
  behind g i prev (e ∷ a) c h = behind g i (Some e.0) a c h.2

  pub apart : (g : ℕ → Option (Node T)) (i : ℕ) (prev : Option ℕ) (a c : List (ℕ × T)) → IsChain g i prev (a ++ c) → (p : ℕ)
      → has p a ≡ true → has p c ≡ false
  apart g i prev [] c h p q = absurd (cc)
  apart g i prev (e ∷ a) c h p q = elim (has_cases p e a q) [
    | inl w ↦ subst (λ x. has x c ≡ false) (sym w) (absent_parts e.0 a c h.1).1
    | inr w ↦ apart g i (Some e.0) a c h.2 p w
  ]

  -- a chain whose first node has another one before it
  pub back : (g g' : ℕ → Option (Node T)) (i : ℕ) (prev prev' : Option ℕ) (es : List (ℕ × T)) → IsChain g i prev es
      → ((p : ℕ) → first_of es ≡ Some p → g' p ≡ with_prev (g p) prev')
      → ((p : ℕ) → has p es ≡ true → first_of es ≢ Some p → g' p ≡ g p)
      → IsChain g' i prev' es
  back g g' i prev prev' [] c h k = tt
  back g g' i prev prev' (e ∷ es) c h k = (
    h e.0 refl ∙ ap (λ o. with_prev o prev') c.0,
    c.1,
    kept g g' i (Some e.0) es c.2
        (λ p q. k p (has_later p e es q) (λ w. let s : e.0 ≡ p = cc in clash (has p es) q (subst (λ x. has x es ≡ false) s c.1))),
  )

  -- the first items of a list, where something else follows them
  pub front : (g g' : ℕ → Option (Node T)) (i : ℕ) (prev : Option ℕ) (a c c' : List (ℕ × T)) → IsChain g i prev (a ++ c)
      → IsChain g' i (last_of prev a) c'
      → ((p : ℕ) → has p a ≡ true → has p c' ≡ false)
      → ((p : ℕ) → has p a ≡ true → last_of prev a ≡ Some p → g' p ≡ with_next (g p) (first_of c'))
      → ((p : ℕ) → has p a ≡ true → last_of prev a ≢ Some p → g' p ≡ g p)
      → IsChain g' i prev (a ++ c')
  front g g' i prev [] c c' h n ap' at ot = n
  front g g' i prev (e ∷ []) c c' h n ap' at ot =
      (at e.0 (has_head e []) refl ∙ ap (λ o. with_next o (first_of c')) h.0, ap' e.0 (has_head e []), n)
  front g g' i prev (e ∷ f ∷ a) c c' h n ap' at ot =
      let no : last_of (Some f.0) a ≢ Some e.0 = λ w. elim (last_in f.0 a e.0 w) [
        | inl q ↦ (has_no e.0 f (a ++ c) h.1).0 q
        | inr q ↦ clash (has e.0 a) q (absent_parts e.0 a c (has_no e.0 f (a ++ c) h.1).1).0
      ] in (
        ot e.0 (has_head e (f ∷ a)) no ∙ h.0,
        absent_append e.0 (f ∷ a) c' (absent_parts e.0 (f ∷ a) c h.1).0 (ap' e.0 (has_head e (f ∷ a))),
        front g g' i (Some e.0) (f ∷ a) c c' h.2 n (λ p q. ap' p (has_later p e (f ∷ a) q)) (λ p q. at p (has_later p e (f ∷ a) q))
            (λ p q. ot p (has_later p e (f ∷ a) q)),
      )

  -- walking gives the list back
  pub walk_chain : (g : ℕ → Option (Node T)) (i : ℕ) (prev : Option ℕ) (n : ℕ) (es : List (ℕ × T)) → IsChain g i prev es → length es ≤ n
      → walk g n (first_of es) ≡ es
  unfolding walk
  walk_chain g i prev zero [] c le = refl
  walk_chain g i prev (suc n) [] c le = refl
  walk_chain g i prev zero (e ∷ es) c le = absurd (omega arith)
  walk_chain g i prev (suc n) (e ∷ es) c le =
      ap (λ o. stepped o e.0 (walk g n)) c.0 ∙ ap (λ r. e ∷ r) (walk_chain g i (Some e.0) n es c.2 (omega arith))

  -- a list is what stands before a place, and from there on
  pub record SplitAt (place : ℕ) (es : List (ℕ × T)) : Type 0 where
    pub a : List (ℕ × T)
    pub x : T
    pub b : List (ℕ × T)
    pub is : es ≡ a ++ (place, x) ∷ b
    pub into : (e : ℕ × T) → before place e es ≡ a ++ e ∷ (place, x) ∷ b
    pub out : without place es ≡ a ++ b
    pub next : after_of place es ≡ first_of b
    pub item : item_of place es ≡ Some x

  pub split_at : (place : ℕ) (es : List (ℕ × T)) → has place es ≡ true → SplitAt place es
  split_at place [] h = absurd (cc)
  split_at place (e ∷ es) h = elim (nat_cases place e.0) [
    | inl q ↦ record {
      a = [];
      x = e.1;
      b = es;
      is = ap (λ k. (k, e.1) ∷ es) (sym q);
      into = λ n. rw (q, same_nat e.0) refl;
      out = rw (q, same_nat e.0) refl;
      next = rw (q, same_nat e.0) refl;
      item = rw (q, same_nat e.0) refl;
    }
    | inr ne ↦
        let h' : has place es ≡ true = elim (has_cases place e es h) [ inl q ↦ absurd (ne q) | inr q ↦ q ] in
        let s = split_at place es h' in
        record {
          a = e ∷ s.a;
          x = s.x;
          b = s.b;
          is = ap (λ r. e ∷ r) s.is;
          into = λ n. rw (other_nat place e.0 ne) (ap (λ r. e ∷ r) (s.into n));
          out = rw (other_nat place e.0 ne) (ap (λ r. e ∷ r) s.out);
          next = rw (other_nat place e.0 ne) s.next;
          item = rw (other_nat place e.0 ne) s.item;
        }
  ]

  pub before_absent : (place : ℕ) (n : ℕ × T) (es : List (ℕ × T)) → has place es ≡ false → before place n es ≡ es
  before_absent place n [] h = refl
  before_absent place n (e ∷ es) h = rw (other_nat place e.0 (has_no place e es h).0)
      (ap (λ r. e ∷ r) (before_absent place n es (has_no place e es h).1))

  pub without_absent : (place : ℕ) (es : List (ℕ × T)) → has place es ≡ false → without place es ≡ es
  without_absent place [] h = refl
  without_absent place (e ∷ es) h = rw (other_nat place e.0 (has_no place e es h).0)
      (ap (λ r. e ∷ r) (without_absent place es (has_no place e es h).1))
