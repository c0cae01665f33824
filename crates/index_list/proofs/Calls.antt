-- What the calls of the lists need.
use Rattle.std.proofs.Common.{◌≡◌, ◌<◌, ◌+◌, ℕ, zero, suc, true, List, [], ◌∷◌, ◌++◌, length, Option, None, Some, refl, sym, ap, ◌∙◌, subst, arith, map, get_or, set, IsSome, IfSome, append-nil, replicate, is_some}
use Rattle.std.specs.List.{sum_by, count_by}
use Rattle.std.proofs.lemmas.List.{get_or_default}
use Rattle.std.proofs.lemmas.List.Sums.{sum_by-cons}
use Rattle.slab.specs.Slab.{Slab, get, slab_len}
use Rattle.index_list.specs.declared.nodes.Node.{Node}
use Rattle.index_list.specs.declared.nodes.Ends.{Ends}
use Rattle.index_list.specs.Many.{first_of, last_of, has, before, without, after_of, item_of, list_at}
use Rattle.index_list.specs.Linked.{IsChain, IsLinked, IsSound, Inserted, Removed, IsBeside, walked, ends_at, first_set, last_set}
use Rattle.index_list.proofs.Chains.{some_inj}
use Rattle.index_list.proofs.Ties.{seen, found, Found, inserted, removed, last_there_is, beside, before_all, without_all}

abbrev pub none : {T : Type 0} → List (ℕ × T)
none = []

bare_at : (n i : ℕ) → ends_at (replicate n (record { first = None; last = None })) i ≡ record { first = None; last = None }
bare_at zero i = refl
bare_at (suc n) zero = refl
bare_at (suc n) (suc i) = bare_at n i

long : {X : Type 0} (x : X) (n : ℕ) → length (replicate n x) ≡ n
long x zero = refl
long x (suc n) = ap suc (long x n)

empty_sum : (T : Type 0) (n : ℕ) → sum_by (length {A = ℕ × T}) (replicate n (none {T = T})) ≡ 0
empty_sum T zero = refl
empty_sum T (suc n) = let a = sum_by-cons (length {A = ℕ × T}) (none {T = T}) (replicate n (none {T = T})) in let b = empty_sum T n in
    omega (arith, a, b)

module _ {T : Type 0} where
  -- the lists that a value shows are those that its fields hold
  pub shown : (nodes : Slab (Node T)) (ends : List Ends) (lists : List (List (ℕ × T))) → IsSound nodes ends → walked nodes ends ≡ lists
      → IsLinked nodes ends lists
  shown nodes ends lists s v = subst (IsLinked nodes ends) (sym (seen nodes ends s.lists s.linked) ∙ v) s.linked

  pub tip : (nodes : Slab (Node T)) (ends : List Ends) (lists : List (List (ℕ × T))) (i : ℕ) (e : Ends) → IsLinked nodes ends lists
      → i < length lists → e ≡ get_or ends i e → e ≡ record { first = first_of (list_at lists i); last = last_of None (list_at lists i) }
  tip nodes ends lists i e linked lt is =
      let at : i < length ends = omega (arith, linked.same, lt) in
      is ∙ get_or_default ends i e (record { first = None; last = None }) at ∙ linked.tips i lt

  pub last_node : (nodes : Slab (Node T)) (ends : List Ends) (lists : List (List (ℕ × T))) (i : ℕ) (e : Ends)
      → IsLinked nodes ends lists → i < length lists → e ≡ get_or ends i e → IfSome e.last (λ p. IsSome (get nodes p))
  last_node nodes ends lists i e linked lt is =
      subst (λ (o : Option ℕ). IfSome o (λ p. IsSome (get nodes p)))
      (sym (ap (λ (x : Ends). x.last) (tip nodes ends lists i e linked lt is)))
      (last_there_is nodes ends lists i (list_at lists i) [] linked (sym (append-nil (list_at lists i))))

  -- a new node at the end
  pub pushed : (nodes nodes' : Slab (Node T)) (ends ends' : List Ends) (lists : List (List (ℕ × T))) (i k : ℕ) (x : T) (e : Ends)
      → IsLinked nodes ends lists → i < length lists → e ≡ get_or ends i e
      → Inserted (get nodes) (get nodes') i k x e.last None → slab_len nodes' ≡ slab_len nodes + 1
      → ends' ≡ last_set None i (Some k) (first_set e.last i (Some k) ends)
      → IsLinked nodes' ends' (set lists i (list_at lists i ++ (k, x) ∷ []))
  pushed nodes nodes' ends ends' lists i k x e linked lt is ins len es =
      let l : e.last ≡ last_of None (list_at lists i) = ap (λ (y : Ends). y.last) (tip nodes ends lists i e linked lt is) in
      inserted nodes nodes' ends ends' lists i k x (list_at lists i) [] linked lt (sym (append-nil (list_at lists i)))
      (subst (λ o. Inserted (get nodes) (get nodes') i k x o None) l ins)
      (es ∙ ap (λ o. last_set None i (Some k) (first_set o i (Some k) ends)) l) len

  -- the node of a place
  pub node_is : (nodes : Slab (Node T)) (lists : List (List (ℕ × T))) (place i : ℕ) (f : Found nodes lists place i) (n : Node T)
      → get nodes place ≡ Some n → n ≡ record { item = f.split.x; list = i; prev = last_of None f.split.a; next = first_of f.split.b }
  node_is nodes lists place i f n e = some_inj n
      (record { item = f.split.x; list = i; prev = last_of None f.split.a; next = first_of f.split.b }) (sym e ∙ f.node)

  pub no_node : (nodes : Slab (Node T)) (ends : List Ends) (lists : List (List (ℕ × T))) (place i : ℕ) → IsLinked nodes ends lists
      → has place (list_at lists i) ≡ true → get nodes place ≡ None → ⊥
  no_node nodes ends lists place i linked h z =
      let f = found nodes ends lists place i linked h in
      let e : Some (record { item = f.split.x; list = i; prev = last_of None f.split.a; next = first_of f.split.b }) ≡ None = sym f.node
      ∙ z in
      absurd (cc)

  pub list_within : (nodes : Slab (Node T)) (ends : List Ends) (lists : List (List (ℕ × T))) (place i : ℕ) (n : Node T)
      → IsLinked nodes ends lists → has place (list_at lists i) ≡ true → get nodes place ≡ Some n → n.list < length ends
  list_within nodes ends lists place i n linked h e =
      let f = found nodes ends lists place i linked h in
      let l : n.list ≡ i = ap (λ (m : Node T). m.list) (node_is nodes lists place i f n e) in
      omega (arith, f.within, linked.same, l)

  pub prev_node : (nodes : Slab (Node T)) (ends : List Ends) (lists : List (List (ℕ × T))) (place i : ℕ) (n : Node T)
      → IsLinked nodes ends lists → has place (list_at lists i) ≡ true → get nodes place ≡ Some n
      → IfSome n.prev (λ p. IsSome (get nodes p))
  prev_node nodes ends lists place i n linked h e =
      let f = found nodes ends lists place i linked h in
      subst (λ (o : Option ℕ). IfSome o (λ p. IsSome (get nodes p))) (sym (ap (λ (m : Node T). m.prev) (node_is nodes lists place i f n e)))
      (last_there_is nodes ends lists i f.split.a ((place, f.split.x) ∷ f.split.b) linked f.split.is)

  pub both_beside : (nodes : Slab (Node T)) (ends : List Ends) (lists : List (List (ℕ × T))) (place i : ℕ) (n : Node T)
      → IsLinked nodes ends lists → has place (list_at lists i) ≡ true → get nodes place ≡ Some n
      → (n.list < length ends) × IsBeside (get nodes) place n.prev × IsBeside (get nodes) place n.next
  both_beside nodes ends lists place i n linked h e =
      let f = found nodes ends lists place i linked h in
      let b = beside nodes ends lists place i linked f in
      let is = node_is nodes lists place i f n e in (
        list_within nodes ends lists place i n linked h e,
        subst (IsBeside (get nodes) place) (sym (ap (λ (m : Node T). m.prev) is)) b.0,
        subst (IsBeside (get nodes) place) (sym (ap (λ (m : Node T). m.next) is)) b.1,
      )

  -- a new node before a place
  pub put_before : (nodes nodes' : Slab (Node T)) (ends ends' : List Ends) (lists : List (List (ℕ × T))) (place i k : ℕ) (x : T)
      (n : Node T) → IsLinked nodes ends lists → has place (list_at lists i) ≡ true → get nodes place ≡ Some n
      → Inserted (get nodes) (get nodes') n.list k x n.prev (Some place) → slab_len nodes' ≡ slab_len nodes + 1
      → ends' ≡ last_set (Some place) n.list (Some k) (first_set n.prev n.list (Some k) ends)
      → IsLinked nodes' ends' (map (before place (k, x)) lists)
  put_before nodes nodes' ends ends' lists place i k x n linked h e ins len es =
      let f = found nodes ends lists place i linked h in
      let is = node_is nodes lists place i f n e in
      let l : n.list ≡ i = ap (λ (m : Node T). m.list) is in
      let p : n.prev ≡ last_of None f.split.a = ap (λ (m : Node T). m.prev) is in
      subst (IsLinked nodes' ends') (sym (before_all nodes ends lists place i (k, x) linked h f))
      (inserted nodes nodes' ends ends' lists i k x f.split.a ((place, f.split.x) ∷ f.split.b) linked f.within f.split.is
      (subst (λ j. Inserted (get nodes) (get nodes') j k x (last_of None f.split.a) (Some place)) l
      (subst (λ o. Inserted (get nodes) (get nodes') n.list k x o (Some place)) p ins))
      (es ∙ ap (λ o. last_set (Some place) n.list (Some k) (first_set o n.list (Some k) ends)) p
      ∙ ap (λ j. last_set (Some place) j (Some k) (first_set (last_of None f.split.a) j (Some k) ends)) l) len)

  -- a node is taken out
  pub taken : (nodes nodes' : Slab (Node T)) (ends ends' : List Ends) (lists : List (List (ℕ × T))) (place i : ℕ)
      → IsLinked nodes ends lists → has place (list_at lists i) ≡ true
      → ((n : Node T) → get nodes place ≡ Some n → Removed (get nodes) (get nodes') place n.prev n.next)
      → ((n : Node T) → get nodes place ≡ Some n → ends' ≡ last_set n.next n.list n.prev (first_set n.prev n.list n.next ends))
      → slab_len nodes' + 1 ≡ slab_len nodes
      → IsLinked nodes' ends' (map (without place) lists)
  taken nodes nodes' ends ends' lists place i linked h r es len =
      let f = found nodes ends lists place i linked h in
      let n : Node T = record { item = f.split.x; list = i; prev = last_of None f.split.a; next = first_of f.split.b } in
      subst (IsLinked nodes' ends') (sym (without_all nodes ends lists place i linked h f))
      (removed nodes nodes' ends ends' lists i place f.split.x f.split.a f.split.b linked f.within f.split.is (r n f.node)
      (es n f.node) len)

  pub next_is : (nodes : Slab (Node T)) (ends : List Ends) (lists : List (List (ℕ × T))) (place i : ℕ) (n : Node T)
      → IsLinked nodes ends lists → has place (list_at lists i) ≡ true → get nodes place ≡ Some n
      → n.next ≡ after_of place (list_at lists i)
  next_is nodes ends lists place i n linked h e =
      let f = found nodes ends lists place i linked h in
      ap (λ (m : Node T). m.next) (node_is nodes lists place i f n e) ∙ sym f.split.next

  pub item_is : (nodes : Slab (Node T)) (ends : List Ends) (lists : List (List (ℕ × T))) (place i : ℕ) (n : Node T)
      → IsLinked nodes ends lists → has place (list_at lists i) ≡ true → get nodes place ≡ Some n
      → item_of place (list_at lists i) ≡ Some n.item
  item_is nodes ends lists place i n linked h e =
      let f = found nodes ends lists place i linked h in
      f.split.item ∙ ap (λ (m : Node T). Some m.item) (sym (node_is nodes lists place i f n e))

  empty_at : (n i : ℕ) → list_at (replicate n (none {T = T})) i ≡ []
  empty_at zero i = refl
  empty_at (suc n) zero = refl
  empty_at (suc n) (suc i) = empty_at n i

  -- empty lists in an empty slab
  pub bare : (nodes : Slab (Node T)) (n : ℕ) → nodes.slots ≡ []
      → IsLinked nodes (replicate n (record { first = None; last = None })) (replicate n [])
  bare nodes n e = record {
    same = long (record { first = None; last = None }) n ∙ sym (long [] n);
    chains = λ i. subst (IsChain (get nodes) i None) (sym (empty_at n i)) tt;
    tips = λ i lt. bare_at n i ∙ ap (λ y. record { first = first_of y; last = last_of None y }) (sym (empty_at n i));
    total = empty_sum T n ∙ sym (ap (λ s. count_by is_some s) e);
  }
