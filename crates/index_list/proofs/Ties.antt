-- The lists together.
use Rattle.std.proofs.Common.{◌≡◌, ◌≢◌, ◌<◌, ◌≤◌, ◌+◌, ℕ, zero, suc, true, false, List, [], ◌∷◌, ◌++◌, length, Option, None, Some, refl, sym, ap, ◌∙◌, subst, inl, inr, ◌⊎◌, arith, map, set, IsSome, IfSome, length-append}
use Rattle.std.proofs.lemmas.List.{get_or-set_same, get_or-set_other, ext_get_or, get_or_past, length-map, get_or-map}
use Rattle.std.proofs.Math.ListN.{length-set}
use Rattle.std.proofs.lemmas.List.Sums.{sum_by-set, get_or-le-sum_by}
use Rattle.slab.specs.Slab.{Slab, get, slab_len}
use Rattle.index_list.specs.declared.nodes.Node.{Node}
use Rattle.index_list.specs.declared.nodes.Ends.{Ends}
use Rattle.index_list.specs.Many.{first_of, last_of, has, before, without, list_at}
use Rattle.index_list.specs.Linked.{IsChain, IsLinked, Inserted, Removed, IsBeside, walk, walked, ends_at, first_set, last_set}
use Rattle.index_list.proofs.Chains.{clash, some_inj, nat_cases, first_in, last_none_in, last_some, last_append, has_no, has_not, has_later, has_append, absent, node_of, kept, behind, apart, back, front, walk_chain, SplitAt, split_at, before_absent, without_absent, has_either}

-- the end that a list keeps or gets
abbrev pub pick : Option ℕ → Option ℕ → Option ℕ → Option ℕ
pick None to old = to
pick (Some p) to old = old

length_first : (o : Option ℕ) (i : ℕ) (to : Option ℕ) (ends : List Ends) → length (first_set o i to ends) ≡ length ends
length_first None i to ends = length-set ends i (record (ends_at ends i) { first = to })
length_first (Some p) i to ends = refl

length_last : (o : Option ℕ) (i : ℕ) (to : Option ℕ) (ends : List Ends) → length (last_set o i to ends) ≡ length ends
length_last None i to ends = length-set ends i (record (ends_at ends i) { last = to })
length_last (Some p) i to ends = refl

first_here : (o : Option ℕ) (i : ℕ) (to : Option ℕ) (ends : List Ends) → i < length ends
    → ends_at (first_set o i to ends) i ≡ record { first = pick o to (ends_at ends i).first; last = (ends_at ends i).last }
first_here None i to ends lt = get_or-set_same ends i (record (ends_at ends i) { first = to }) (record { first = None; last = None }) lt
first_here (Some p) i to ends lt = refl

last_here : (o : Option ℕ) (i : ℕ) (to : Option ℕ) (ends : List Ends) → i < length ends
    → ends_at (last_set o i to ends) i ≡ record { first = (ends_at ends i).first; last = pick o to (ends_at ends i).last }
last_here None i to ends lt = get_or-set_same ends i (record (ends_at ends i) { last = to }) (record { first = None; last = None }) lt
last_here (Some p) i to ends lt = refl

first_there : (o : Option ℕ) (i : ℕ) (to : Option ℕ) (ends : List Ends) (j : ℕ) → j ≢ i → ends_at (first_set o i to ends) j ≡ ends_at ends j
first_there None i to ends j ne = get_or-set_other ends i j (record (ends_at ends i) { first = to })
    (record { first = None; last = None }) ne
first_there (Some p) i to ends j ne = refl

last_there : (o : Option ℕ) (i : ℕ) (to : Option ℕ) (ends : List Ends) (j : ℕ) → j ≢ i → ends_at (last_set o i to ends) j ≡ ends_at ends j
last_there None i to ends j ne = get_or-set_other ends i j (record (ends_at ends i) { last = to }) (record { first = None; last = None }) ne
last_there (Some p) i to ends j ne = refl

-- the ends after both changes
both_here : (o q : Option ℕ) (i : ℕ) (to fro : Option ℕ) (ends : List Ends) (f l f' l' : Option ℕ) → i < length ends
    → ends_at ends i ≡ record { first = f; last = l } → pick o to f ≡ f' → pick q fro l ≡ l'
    → ends_at (last_set q i fro (first_set o i to ends)) i ≡ record { first = f'; last = l' }
both_here o q i to fro ends f l f' l' lt e hf hl =
    let u : ends_at (first_set o i to ends) i ≡ record { first = pick o to f; last = l } = first_here o i to ends lt
    ∙ ap (λ (x : Ends). record { first = pick o to x.first; last = x.last }) e in
    last_here q i fro (first_set o i to ends) (rw (length_first o i to ends) lt)
    ∙ ap (λ (x : Ends). record { first = x.first; last = pick q fro x.last }) u
    ∙ ap (λ x. record { first = x; last = pick q fro l }) hf
    ∙ ap (λ x. record { first = f'; last = x }) hl

if_some : (P : ℕ → Type 0) (o : Option ℕ) → ((p : ℕ) → o ≡ Some p → P p) → IfSome o P
if_some P None h = tt
if_some P (Some p) h = h p refl

module _ {T : Type 0} where
  -- the ends of a list whose back part changes from c to c'
  first_pick : (a c c' : List (ℕ × T)) → pick (last_of None a) (first_of c') (first_of (a ++ c)) ≡ first_of (a ++ c')
  first_pick [] c c' = refl
  first_pick (e ∷ a) c c' = let s = last_some e.0 a in rw s.1 refl

  last_pick_in : (a b : List (ℕ × T)) (k : ℕ) (x : T) → pick (first_of b) (Some k) (last_of None (a ++ b)) ≡ last_of None (a ++ (k, x) ∷ b)
  last_pick_in a [] k x = sym (last_append None a ((k, x) ∷ []))
  last_pick_in a (f ∷ b) k x = last_append None a (f ∷ b) ∙ sym (last_append None a ((k, x) ∷ f ∷ b))

  last_pick_out : (a b : List (ℕ × T)) (k : ℕ) (x : T)
      → pick (first_of b) (last_of None a) (last_of None (a ++ (k, x) ∷ b)) ≡ last_of None (a ++ b)
  last_pick_out a [] k x = sym (last_append None a [])
  last_pick_out a (f ∷ b) k x = last_append None a ((k, x) ∷ f ∷ b) ∙ sym (last_append None a (f ∷ b))

  -- no place stands in two lists
  one_list : (g : ℕ → Option (Node T)) (i j : ℕ) (o q : Option ℕ) (xs ys : List (ℕ × T)) (p : ℕ) → IsChain g i o xs → IsChain g j q ys
      → has p xs ≡ true → has p ys ≡ true → i ≡ j
  one_list g i j o q xs ys p c d h k =
      let m = node_of g i o xs p c h in
      let n = node_of g j q ys p d k in
      let e : m.0 ≡ n.0 = some_inj m.0 n.0 (sym m.1 ∙ n.1) in
      sym m.2 ∙ (ap (λ (x : Node T). x.list) e ∙ n.2)

  in_front : (a b : List (ℕ × T)) (p : ℕ) → has p a ≡ true → has p (a ++ b) ≡ true
  in_front a b p h = has_append p a b ∙ (rw h refl)

  in_back : (a b : List (ℕ × T)) (p : ℕ) → has p b ≡ true → has p (a ++ b) ≡ true
  in_back [] b p h = h
  in_back (e ∷ a) b p h = has_later p e (a ++ b) (in_back a b p h)

  chain_inserted : (g g' : ℕ → Option (Node T)) (i k : ℕ) (x : T) (a b : List (ℕ × T)) → IsChain g i None (a ++ b)
      → Inserted g g' i k x (last_of None a) (first_of b) → IsChain g' i None (a ++ (k, x) ∷ b)
  chain_inserted g g' i k x a b c ins =
      let out : has k (a ++ b) ≡ false = absent g i None (a ++ b) k c ins.fresh in
      let not_k : (p : ℕ) → has p (a ++ b) ≡ true
      → p ≢ k = λ p h w. clash (has p (a ++ b)) h (subst (λ y. has y (a ++ b) ≡ false) (sym w) out) in
      let ap_rt : (p : ℕ) → has p a ≡ true → has p b ≡ false = apart g i None a b c in
      let no_first : (p : ℕ) → has p a ≡ true → first_of b ≢ Some p = λ p q v. clash (has p b) (first_in b p v) (ap_rt p q) in
      let no_last : (p : ℕ) → has p b ≡ true → last_of None a ≢ Some p = λ p q v. clash (has p b) q (ap_rt p (last_none_in a p v)) in
      let b_out : has k b ≡ false = absent g i (last_of None a) b k (behind g i None a b c) ins.fresh in
      front g g' i None a b ((k, x) ∷ b) c (
        ins.here,
        b_out,
        back g g' i (last_of None a) (Some k) b (behind g i None a b c)
            (λ p q. ins.right p q (no_last p (first_in b p q)))
            (λ p q ne. ins.others p (not_k p (in_back a b p q)) (no_last p q) ne),
      )
      (λ p q. has_not p (k, x) b (not_k p (in_front a b p q)) (ap_rt p q))
      (λ p q w. ins.left p w (no_first p q))
      (λ p q ne. ins.others p (not_k p (in_front a b p q)) ne (no_first p q))

  chain_removed : (g g' : ℕ → Option (Node T)) (i k : ℕ) (x : T) (a b : List (ℕ × T)) → IsChain g i None (a ++ (k, x) ∷ b)
      → Removed g g' k (last_of None a) (first_of b) → IsChain g' i None (a ++ b)
  chain_removed g g' i k x a b c r =
      let ap_rt : (p : ℕ) → has p a ≡ true → (p ≢ k) × (has p b ≡ false) = λ p q. has_no p (k, x) b (apart g i None a ((k, x) ∷ b) c p q) in
      let no_first : (p : ℕ) → has p a ≡ true → first_of b ≢ Some p = λ p q v. clash (has p b) (first_in b p v) (ap_rt p q).1 in
      let no_last : (p : ℕ) → has p b ≡ true → last_of None a ≢ Some p = λ p q v. clash (has p b) q (ap_rt p (last_none_in a p v)).1 in
      let tail = behind g i None a ((k, x) ∷ b) c in
      let not_k : (p : ℕ) → has p b ≡ true → p ≢ k = λ p h w. clash (has p b) h (subst (λ y. has y b ≡ false) (sym w) tail.1) in
      front g g' i None a ((k, x) ∷ b) b c
      (back g g' i (Some k) (last_of None a) b tail.2
      (λ p q. r.right p (not_k p (first_in b p q)) q (no_last p (first_in b p q)))
      (λ p q ne. r.others p (not_k p q) (no_last p q) ne))
      (λ p q. (ap_rt p q).1)
      (λ p q w. r.left p (ap_rt p q).0 w (no_first p q))
      (λ p q ne. r.others p (ap_rt p q).0 ne (no_first p q))

  module _ (nodes nodes' : Slab (Node T)) (ends ends' : List Ends) (lists : List (List (ℕ × T))) (i k : ℕ) (x : T) (a b : List (ℕ × T))
      (linked : IsLinked nodes ends lists) (lt : i < length lists) where
    pub inserted : list_at lists i ≡ a ++ b → Inserted (get nodes) (get nodes') i k x (last_of None a) (first_of b)
        → ends' ≡ last_set (first_of b) i (Some k) (first_set (last_of None a) i (Some k) ends) → slab_len nodes' ≡ slab_len nodes + 1
        → IsLinked nodes' ends' (set lists i (a ++ (k, x) ∷ b))
    inserted is ins es len =
        let c : IsChain (get nodes) i None (a ++ b) = subst (IsChain (get nodes) i None) is (linked.chains i) in
        let new = a ++ (k, x) ∷ b in
        let here : list_at (set lists i new) i ≡ new = get_or-set_same lists i new [] lt in
        let there : (j : ℕ) → j ≢ i → list_at (set lists i new) j ≡ list_at lists j = λ j ne. get_or-set_other lists i j new [] ne in
        let at : i < length ends = rw linked.same lt in
        record {
          same = rw es (length_last (first_of b) i (Some k) (first_set (last_of None a) i (Some k) ends)
              ∙ length_first (last_of None a) i (Some k) ends ∙ linked.same ∙ sym (length-set lists i new));
          chains = λ j. elim (nat_cases j i) [
            | inl e ↦ subst (λ z. IsChain (get nodes') z None (list_at (set lists i new) z)) (sym e)
                (subst (IsChain (get nodes') i None) (sym here) (chain_inserted (get nodes) (get nodes') i k x a b c ins))
            | inr ne ↦ subst (IsChain (get nodes') j None) (sym (there j ne))
                (kept (get nodes) (get nodes') j None (list_at lists j) (linked.chains j) (λ p h.
                ins.others p
                (λ w. clash (has p (list_at lists j)) h
                (absent (get nodes) j None (list_at lists j) p (linked.chains j) (ap (get nodes) w ∙ ins.fresh)))
                (λ w. ne (one_list (get nodes) j i None None (list_at lists j) (a ++ b) p (linked.chains j) c h
                (in_front a b p (last_none_in a p w))))
                (λ w. ne (one_list (get nodes) j i None None (list_at lists j) (a ++ b) p (linked.chains j) c h
                (in_back a b p (first_in b p w))))))
          ];
          tips = λ j lt'. elim (nat_cases j i) [
            | inl e ↦ subst (λ z. ends_at ends' z ≡ record {
              first = first_of (list_at (set lists i new) z);
              last = last_of None (list_at (set lists i new) z);
            }) (sym e)
                (rw (here, es) (both_here (last_of None a) (first_of b) i (Some k) (Some k) ends (first_of (a ++ b))
                (last_of None (a ++ b)) (first_of new) (last_of None new) at
                (linked.tips i lt ∙ ap (λ y. record { first = first_of y; last = last_of None y }) is)
                (first_pick a b ((k, x) ∷ b)) (last_pick_in a b k x)))
            | inr ne ↦ rw (there j ne, es)
                (last_there (first_of b) i (Some k) (first_set (last_of None a) i (Some k) ends) j ne
                ∙ first_there (last_of None a) i (Some k) ends j ne ∙ linked.tips j (rw length-set at lt'))
          ];
          total =
              let s = sum_by-set length lists i new [] lt in
              let u : length (list_at lists i) ≡ length a + length b = ap length is ∙ length-append a b in
              let v : length new ≡ length a + suc (length b) = length-append a ((k, x) ∷ b) in
              let t = linked.total in
              omega (arith, s, u, v, t, len);
        }

    pub removed : list_at lists i ≡ a ++ (k, x) ∷ b → Removed (get nodes) (get nodes') k (last_of None a) (first_of b)
        → ends' ≡ last_set (first_of b) i (last_of None a) (first_set (last_of None a) i (first_of b) ends)
        → slab_len nodes' + 1 ≡ slab_len nodes → IsLinked nodes' ends' (set lists i (a ++ b))
    removed is r es len =
        let c : IsChain (get nodes) i None (a ++ (k, x) ∷ b) = subst (IsChain (get nodes) i None) is (linked.chains i) in
        let new = a ++ b in
        let here : list_at (set lists i new) i ≡ new = get_or-set_same lists i new [] lt in
        let there : (j : ℕ) → j ≢ i → list_at (set lists i new) j ≡ list_at lists j = λ j ne. get_or-set_other lists i j new [] ne in
        let at : i < length ends = rw linked.same lt in
        let old = a ++ (k, x) ∷ b in
        let k_in : has k old ≡ true = in_back a ((k, x) ∷ b) k (first_in ((k, x) ∷ b) k refl) in
        record {
          same = rw es (length_last (first_of b) i (last_of None a) (first_set (last_of None a) i (first_of b) ends)
              ∙ length_first (last_of None a) i (first_of b) ends ∙ linked.same ∙ sym (length-set lists i new));
          chains = λ j. elim (nat_cases j i) [
            | inl e ↦ subst (λ z. IsChain (get nodes') z None (list_at (set lists i new) z)) (sym e)
                (subst (IsChain (get nodes') i None) (sym here) (chain_removed (get nodes) (get nodes') i k x a b c r))
            | inr ne ↦ subst (IsChain (get nodes') j None) (sym (there j ne))
                (kept (get nodes) (get nodes') j None (list_at lists j) (linked.chains j) (λ p h.
                r.others p
                (λ w. ne (one_list (get nodes) j i None None (list_at lists j) old p (linked.chains j) c h
                (subst (λ y. has y old ≡ true) (sym w) k_in)))
                (λ w. ne (one_list (get nodes) j i None None (list_at lists j) old p (linked.chains j) c h
                (in_front a ((k, x) ∷ b) p (last_none_in a p w))))
                (λ w. ne (one_list (get nodes) j i None None (list_at lists j) old p (linked.chains j) c h
                (in_back a ((k, x) ∷ b) p (has_later p (k, x) b (first_in b p w)))))))
          ];
          tips = λ j lt'. elim (nat_cases j i) [
            | inl e ↦ subst (λ z. ends_at ends' z ≡ record {
              first = first_of (list_at (set lists i new) z);
              last = last_of None (list_at (set lists i new) z);
            }) (sym e)
                (rw (here, es) (both_here (last_of None a) (first_of b) i (first_of b) (last_of None a) ends (first_of old)
                (last_of None old) (first_of new) (last_of None new) at
                (linked.tips i lt ∙ ap (λ y. record { first = first_of y; last = last_of None y }) is)
                (first_pick a ((k, x) ∷ b) b) (last_pick_out a b k x)))
            | inr ne ↦ rw (there j ne, es)
                (last_there (first_of b) i (last_of None a) (first_set (last_of None a) i (first_of b) ends) j ne
                ∙ first_there (last_of None a) i (first_of b) ends j ne ∙ linked.tips j (rw length-set at lt'))
          ];
          total =
              let s = sum_by-set length lists i new [] lt in
              let u : length (list_at lists i) ≡ length a + suc (length b) = ap length is ∙ length-append a ((k, x) ∷ b) in
              let v : length new ≡ length a + length b = length-append a b in
              let t = linked.total in
              omega (arith, s, u, v, t, len);
        }

  -- the fields are seen as the lists that they hold
  pub seen : (nodes : Slab (Node T)) (ends : List Ends) (lists : List (List (ℕ × T))) → IsLinked nodes ends lists
      → walked nodes ends ≡ lists
  seen nodes ends lists linked =
      let len : length (walked nodes ends) ≡ length lists = length-map ends (λ (e : Ends). walk (get nodes) (slab_len nodes) e.first)
      ∙ linked.same in
      ext_get_or [] (walked nodes ends) lists len (λ i lt.
      let lt' : i < length lists = omega (arith, lt, len) in
      let at : i < length ends = omega (arith, lt', linked.same) in
      let t = get_or-le-sum_by length lists i [] lt' in
      let n : length (list_at lists i) ≤ slab_len nodes = omega (arith, t, linked.total) in
      get_or-map (λ (e : Ends). walk (get nodes) (slab_len nodes) e.first) ends i (record { first = None; last = None }) [] at
      ∙ ap (λ (e : Ends). walk (get nodes) (slab_len nodes) e.first) (linked.tips i lt')
      ∙ walk_chain (get nodes) i None (slab_len nodes) (list_at lists i) (linked.chains i) n)

  -- where a place stands, and its node
  pub record Found (nodes : Slab (Node T)) (lists : List (List (ℕ × T))) (place i : ℕ) : Type 0 where
    pub split : SplitAt place (list_at lists i)
    pub node : get nodes place ≡ Some (record { item = split.x; list = i; prev = last_of None split.a; next = first_of split.b })
    pub within : i < length lists

  pub found : (nodes : Slab (Node T)) (ends : List Ends) (lists : List (List (ℕ × T))) (place i : ℕ) → IsLinked nodes ends lists
      → has place (list_at lists i) ≡ true → Found nodes lists place i
  found nodes ends lists place i linked h =
      let s = split_at place (list_at lists i) h in
      record {
        split = s;
        node = (behind (get nodes) i None s.a ((place, s.x) ∷ s.b) (subst (IsChain (get nodes) i None) s.is (linked.chains i))).0;
        within = elim (split_le i (length lists)) [
          | inl lt ↦ lt
          | inr le ↦ let e : list_at lists i ≡ [] = get_or_past lists i [] le in clash (has place (list_at lists i)) h (ap (has place) e)
        ];
      }
    where
      split_le : (a b : ℕ) → (a < b) ⊎ (b ≤ a)
      split_le a zero = inr (omega arith)
      split_le zero (suc b) = inl (omega arith)
      split_le (suc a) (suc b) = elim (split_le a b) [ inl lt ↦ inl (omega arith) | inr le ↦ inr (omega arith) ]

  some_is : (o : Option (Node T)) (n : Node T) → o ≡ Some n → IsSome o
  some_is None n e = absurd (cc)
  some_is (Some m) n e = refl

  -- a place of a list has a node
  pub there : (nodes : Slab (Node T)) (ends : List Ends) (lists : List (List (ℕ × T))) (p i : ℕ) → IsLinked nodes ends lists
      → has p (list_at lists i) ≡ true → IsSome (get nodes p)
  there nodes ends lists p i linked h = let n = node_of (get nodes) i None (list_at lists i) p (linked.chains i) h in
      some_is (get nodes p) n.0 n.1

  pub last_there_is : (nodes : Slab (Node T)) (ends : List Ends) (lists : List (List (ℕ × T))) (i : ℕ) (a b : List (ℕ × T))
      → IsLinked nodes ends lists → list_at lists i ≡ a ++ b → IfSome (last_of None a) (λ p. IsSome (get nodes p))
  last_there_is nodes ends lists i a b linked is = if_some (λ p. IsSome (get nodes p)) (last_of None a)
      (λ p w. there nodes ends lists p i linked (rw is (in_front a b p (last_none_in a p w))))

  is_beside : (g : ℕ → Option (Node T)) (place : ℕ) (o : Option ℕ) → ((p : ℕ) → o ≡ Some p → (p ≢ place) × IsSome (g p))
      → IsBeside g place o
  is_beside g place None h = tt
  is_beside g place (Some p) h = h p refl

  -- the neighbours of a place
  pub beside : (nodes : Slab (Node T)) (ends : List Ends) (lists : List (List (ℕ × T))) (place i : ℕ) → IsLinked nodes ends lists
      → (f : Found nodes lists place i)
      → IsBeside (get nodes) place (last_of None f.split.a) × IsBeside (get nodes) place (first_of f.split.b)
  beside nodes ends lists place i linked f =
      let s = f.split in
      let c : IsChain (get nodes) i None (s.a ++ (place, s.x) ∷ s.b) = subst (IsChain (get nodes) i None) s.is (linked.chains i) in
      let tail = behind (get nodes) i None s.a ((place, s.x) ∷ s.b) c in (
        is_beside (get nodes) place (last_of None s.a) (λ p w. (
          (has_no p (place, s.x) s.b (apart (get nodes) i None s.a ((place, s.x) ∷ s.b) c p (last_none_in s.a p w))).0,
          there nodes ends lists p i linked (rw s.is (in_front s.a ((place, s.x) ∷ s.b) p (last_none_in s.a p w))),
        )),
        is_beside (get nodes) place (first_of s.b) (λ p w. (
          λ v. clash (has p s.b) (first_in s.b p w) (subst (λ y. has y s.b ≡ false) (sym v) tail.1),
          there nodes ends lists p i linked
              (rw s.is (in_back s.a ((place, s.x) ∷ s.b) p (has_later p (place, s.x) s.b (first_in s.b p w)))),
        )),
      )

  -- a place that has no node stands in no list
  pub nowhere : (nodes : Slab (Node T)) (ends : List Ends) (lists : List (List (ℕ × T))) (p : ℕ) → IsLinked nodes ends lists
      → get nodes p ≡ None → (i : ℕ) → has p (list_at lists i) ≡ false
  nowhere nodes ends lists p linked z i = absent (get nodes) i None (list_at lists i) p (linked.chains i) z

  -- one list is changed, and the others don't have the place
  map_one : (f : List (ℕ × T) → List (ℕ × T)) (lists : List (List (ℕ × T))) (i : ℕ) → i < length lists
      → ((j : ℕ) → j ≢ i → f (list_at lists j) ≡ list_at lists j) → map f lists ≡ set lists i (f (list_at lists i))
  map_one f lists i lt h =
      ext_get_or [] (map f lists) (set lists i (f (list_at lists i)))
      (length-map lists f ∙ sym (length-set lists i (f (list_at lists i)))) (λ j lt'.
      let l : j < length lists = omega (arith, lt', length-map lists f) in
      get_or-map f lists j [] [] l ∙ elim (nat_cases j i) [
        | inl e ↦ subst (λ z. f (list_at lists z) ≡ list_at (set lists i (f (list_at lists i))) z) (sym e)
            (sym (get_or-set_same lists i (f (list_at lists i)) [] lt))
        | inr ne ↦ h j ne ∙ sym (get_or-set_other lists i j (f (list_at lists i)) [] ne)
      ])

  elsewhere : (nodes : Slab (Node T)) (ends : List Ends) (lists : List (List (ℕ × T))) (place i j : ℕ) → IsLinked nodes ends lists
      → has place (list_at lists i) ≡ true → j ≢ i → has place (list_at lists j) ≡ false
  elsewhere nodes ends lists place i j linked h ne = elim (has_either place (list_at lists j)) [
    | inl k ↦ absurd (ne (one_list (get nodes) j i None None (list_at lists j) (list_at lists i) place (linked.chains j)
        (linked.chains i) k h))
    | inr k ↦ k
  ]

  pub before_all : (nodes : Slab (Node T)) (ends : List Ends) (lists : List (List (ℕ × T))) (place i : ℕ) (n : ℕ × T)
      → IsLinked nodes ends lists → has place (list_at lists i) ≡ true → (f : Found nodes lists place i)
      → map (before place n) lists ≡ set lists i (f.split.a ++ n ∷ (place, f.split.x) ∷ f.split.b)
  before_all nodes ends lists place i n linked h f =
      map_one (before place n) lists i f.within
      (λ j ne. before_absent place n (list_at lists j) (elsewhere nodes ends lists place i j linked h ne))
      ∙ ap (set lists i) (f.split.into n)

  pub without_all : (nodes : Slab (Node T)) (ends : List Ends) (lists : List (List (ℕ × T))) (place i : ℕ) → IsLinked nodes ends lists
      → has place (list_at lists i) ≡ true → (f : Found nodes lists place i)
      → map (without place) lists ≡ set lists i (f.split.a ++ f.split.b)
  without_all nodes ends lists place i linked h f =
      map_one (without place) lists i f.within
      (λ j ne. without_absent place (list_at lists j) (elsewhere nodes ends lists place i j linked h ne))
      ∙ ap (set lists i) f.split.out
