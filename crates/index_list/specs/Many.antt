-- Several lists of items, each under its place.
use Rattle.std.specs.Prelude.{◌≡◌, ℕ, Bool, true, false, ◌||◌, List, [], ◌∷◌, Option, None, Some, slice_index_or, nat_eq, if◌then◌else◌, refl}
use Rattle.std.specs.Coded.{Coded, code_by, coded×, coded_list, coded_ℕ}

-- the lists, and how many more items have room
pub record Many (T : Type 0) : Type 0 where
  pub lists : List (List (ℕ × T))
  pub spare : ℕ

abbrev pub many_code : {T : Type 0} → Coded T → Coded (Many T)
many_code {T} code =
    code_by
    (List (List (ℕ × T)) × ℕ)
    (coded× (coded_list (coded_list (coded× coded_ℕ code))) coded_ℕ)
    (λ m. (m.lists, m.spare))
    (λ p. record { lists = p.0; spare = p.1 })
    (λ _. refl)

module _ {T : Type 0} where
  abbrev pub list_at : List (List (ℕ × T)) → ℕ → List (ℕ × T)
  list_at lists i = slice_index_or lists i []

  -- the place of the first item
  abbrev pub first_of : List (ℕ × T) → Option ℕ
  first_of [] = None
  first_of (e ∷ es) = Some e.0

  -- the place of the last item, or this one where there is none
  abbrev pub last_of : Option ℕ → List (ℕ × T) → Option ℕ
  last_of prev [] = prev
  last_of prev (e ∷ es) = last_of (Some e.0) es

  -- the list has an item under this place
  abbrev pub has : ℕ → List (ℕ × T) → Bool
  has place [] = false
  has place (e ∷ es) = nat_eq place e.0 || has place es

  -- some list has an item under this place
  pub record IsPlaced (place : ℕ) (lists : List (List (ℕ × T))) : Type 0 where
    pub list : ℕ
    pub here : has place (list_at lists list) ≡ true

  -- a list with a new entry before the one of this place
  abbrev pub before : ℕ → ℕ × T → List (ℕ × T) → List (ℕ × T)
  before place new [] = []
  before place new (e ∷ es) = if nat_eq place e.0 then new ∷ e ∷ es else e ∷ before place new es

  -- a list without the entry of this place
  abbrev pub without : ℕ → List (ℕ × T) → List (ℕ × T)
  without place [] = []
  without place (e ∷ es) = if nat_eq place e.0 then es else e ∷ without place es

  -- the place that follows
  abbrev pub after_of : ℕ → List (ℕ × T) → Option ℕ
  after_of place [] = None
  after_of place (e ∷ es) = if nat_eq place e.0 then first_of es else after_of place es

  -- the item under a place
  abbrev pub item_of : ℕ → List (ℕ × T) → Option T
  item_of place [] = None
  item_of place (e ∷ es) = if nat_eq place e.0 then Some e.1 else item_of place es
