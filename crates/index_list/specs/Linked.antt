-- How the lists lie in a slab.
use Rattle.std.specs.Prelude.{◌≡◌, ◌≢◌, ℕ, zero, suc, ◌<◌, false, List, [], ◌∷◌, Option, None, Some, length, map, slice_index_or, slice_set, IsSome}
use Rattle.std.specs.List.{sum_by}
use Rattle.slab.specs.Slab.{Slab, get, slab_len}
use Rattle.index_list.specs.Many.{first_of, last_of, has, list_at}
use Rattle.index_list.specs.declared.nodes.Node.{Node}
use Rattle.index_list.specs.declared.nodes.Ends.{Ends}

abbrev pub ends_at : List Ends → ℕ → Ends
ends_at ends i = slice_index_or ends i (record { first = None; last = None })

-- where there is nothing before, the list begins with this
abbrev pub first_set : Option ℕ → ℕ → Option ℕ → List Ends → List Ends
first_set None list to ends = slice_set ends list (record (ends_at ends list) { first = to })
first_set (Some p) list to ends = ends

abbrev pub last_set : Option ℕ → ℕ → Option ℕ → List Ends → List Ends
last_set None list to ends = slice_set ends list (record (ends_at ends list) { last = to })
last_set (Some p) list to ends = ends

module _ {T : Type 0} where
  abbrev pub with_next : Option (Node T) → Option ℕ → Option (Node T)
  with_next None to = None
  with_next (Some n) to = Some (record n { next = to })

  abbrev pub with_prev : Option (Node T) → Option ℕ → Option (Node T)
  with_prev None to = None
  with_prev (Some n) to = Some (record n { prev = to })

  pub record LinksNext (old new : ℕ → Option (Node T)) (prev to : Option ℕ) : Type 0 where
    pub at : (p : ℕ) → prev ≡ Some p → new p ≡ with_next (old p) to
    pub others : (p : ℕ) → prev ≢ Some p → new p ≡ old p

  pub record LinksPrev (old new : ℕ → Option (Node T)) (next to : Option ℕ) : Type 0 where
    pub at : (p : ℕ) → next ≡ Some p → new p ≡ with_prev (old p) to
    pub others : (p : ℕ) → next ≢ Some p → new p ≡ old p

  -- a new node between two neighbours
  pub record Inserted (old new : ℕ → Option (Node T)) (list place : ℕ) (item : T) (prev next : Option ℕ) : Type 0 where
    pub fresh : old place ≡ None
    pub here : new place ≡ Some (record { item = item; list = list; prev = prev; next = next })
    pub left : (p : ℕ) → prev ≡ Some p → next ≢ Some p → new p ≡ with_next (old p) (Some place)
    pub right : (p : ℕ) → next ≡ Some p → prev ≢ Some p → new p ≡ with_prev (old p) (Some place)
    pub others : (p : ℕ) → p ≢ place → prev ≢ Some p → next ≢ Some p → new p ≡ old p

  -- a node between two neighbours is taken out
  pub record Removed (old new : ℕ → Option (Node T)) (place : ℕ) (prev next : Option ℕ) : Type 0 where
    pub left : (p : ℕ) → p ≢ place → prev ≡ Some p → next ≢ Some p → new p ≡ with_next (old p) next
    pub right : (p : ℕ) → p ≢ place → next ≡ Some p → prev ≢ Some p → new p ≡ with_prev (old p) prev
    pub others : (p : ℕ) → p ≢ place → prev ≢ Some p → next ≢ Some p → new p ≡ old p

  -- a neighbour is there, and is another place
  abbrev pub IsBeside : (ℕ → Option (Node T)) → ℕ → Option ℕ → Type 0
  IsBeside g place None = Unit {0}
  IsBeside g place (Some p) = (p ≢ place) × IsSome (g p)

  -- from this place on, the nodes are those of a list whose items before it end in prev
  abbrev pub IsChain : (ℕ → Option (Node T)) → ℕ → Option ℕ → List (ℕ × T) → Type 0
  IsChain g list prev [] = Unit {0}
  IsChain g list prev (e ∷ es) = (g e.0 ≡ Some (record { item = e.1; list = list; prev = prev; next = first_of es })) ×
      (has e.0 es ≡ false) × IsChain g list (Some e.0) es

  -- the slab and the ends are those of these lists
  pub record IsLinked (nodes : Slab (Node T)) (ends : List Ends) (lists : List (List (ℕ × T))) : Type 0 where
    pub same : length ends ≡ length lists
    pub chains : (i : ℕ) → IsChain (get nodes) i None (list_at lists i)
    pub tips : (i : ℕ) → i < length lists
        → ends_at ends i ≡ record { first = first_of (list_at lists i); last = last_of None (list_at lists i) }
    pub total : sum_by length lists ≡ slab_len nodes

  -- some lists are what the slab and the ends say
  pub record IsSound (nodes : Slab (Node T)) (ends : List Ends) : Type 0 where
    pub lists : List (List (ℕ × T))
    pub linked : IsLinked nodes ends lists

  abbrev pub stepped : Option (Node T) → ℕ → (Option ℕ → List (ℕ × T)) → List (ℕ × T)
  stepped None place rest = []
  stepped (Some node) place rest = (place, node.item) ∷ rest node.next

  -- the places and items that the nodes lead through
  unfoldable pub walk : (ℕ → Option (Node T)) → ℕ → Option ℕ → List (ℕ × T)
  walk g zero at = []
  walk g (suc n) None = []
  walk g (suc n) (Some place) = stepped (g place) place (walk g n)

  -- what the lists are seen as
  abbrev pub walked : Slab (Node T) → List Ends → List (List (ℕ × T))
  walked nodes ends = map (λ e. walk (get nodes) (slab_len nodes) e.first) ends
