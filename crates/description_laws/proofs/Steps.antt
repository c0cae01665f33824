-- What an accepted check says, and what holds after each item that was read.
use Rattle.std.proofs.Common.{◌≡◌, ℕ, ◌+◌, ◌-◌, ◌^◌, ◌<◌, ◌≤◌, ◌==◌, ◌||◌, Bool, true, false, nat_le, List, [], ◌∷◌, ◌++◌, length, length-append, Option, Some, None, Result, Ok, Err, refl, ap, subst, ◌∙◌, arith}
use Rattle.std.specs.Prelude.{option_and_then, if◌then◌else◌, map}
use Rattle.std.specs.List.{list_any, AllByRecursion}
use Rattle.std.proofs.lemmas.Bool.{and_parts}
use Rattle.std.proofs.lemmas.Bool.Decides.{nat_tests}
use Rattle.std.proofs.lemmas.List.Folds.{list_any-append}
use Rattle.document_specs.specs.Checks.{◌>>=◌, needs, each}
use Rattle.toml.specs.Data.{Members, Data, get_member, as_array, as_integer}
use Rattle.document_specs.specs.Documents.{that, is_within, natural, number, number_of, tables, tables_in, some_tables, are_some_tables, are_tables, tables_of}
use Rattle.description_specs.specs.Variables.{reference}
use Rattle.description_laws.specs.Fit.{AreDifferent}

pub needs_ok : {E A B : Type 0} (e : E) (o : Option A) (f : A → Result B E) (y : B) → (needs e o >>= f) ≡ Ok y → (x : A) × (o ≡ Some x) × (f x ≡ Ok y)
needs_ok e (Some x) f y h = (x, refl, h)
needs_ok e None f y h = absurd (cc)

pub if_some : {A : Type 0} (b : Bool) (a x : A) → (if b then Some a else None) ≡ Some x → (a ≡ x) × (b ≡ true)
if_some true a x h = (cc, refl)
if_some false a x h = absurd (cc)

pub that_ok : {A : Type 0} (p : A → Bool) (o : Option A) (x : A) → option_and_then (that p) o ≡ Some x → p x ≡ true
that_ok p None x h = absurd (cc)
that_ok p (Some a) x h = let k = if_some (p a) a x h in subst (λ y. p y ≡ true) k.0 k.1

pub that_is : {A : Type 0} (p : A → Bool) (o : Option A) (x : A) → option_and_then (that p) o ≡ Some x → o ≡ Some x
that_is p None x h = absurd (cc)
that_is p (Some a) x h = let k = if_some (p a) a x h in ap (λ y. Some y) k.0

pub some_of : {A B : Type 0} (f : A → Option B) (o : Option A) (y : B) → option_and_then f o ≡ Some y → (x : A) × (o ≡ Some x) × (f x ≡ Some y)
some_of f None y h = absurd (cc)
some_of f (Some x) y h = (x, refl, h)

within : (low high n : ℕ) → is_within low high n ≡ true → (low ≤ n) × (n ≤ high)
within low high n h = let k = and_parts (nat_le low n) (nat_le n high) h in (least k.0, least k.1)
  where
    least : {a b : ℕ} → nat_le a b ≡ true → a ≤ b
    least e = grind (arith, nat_tests)

-- a number that stands at a key is in its range
pub number_ok : (low high : ℕ) (d : Data) (n : ℕ) → number_of low high d ≡ Some n → (low ≤ n) × (n ≤ high)
number_ok low high d n h = within low high n (that_ok (is_within low high) (option_and_then natural (as_integer d)) n h)

pub number_at_ok : (low high : ℕ) (key : List ℕ) (t : Members) (n : ℕ) → number low high key t ≡ Some n → (low ≤ n) × (n ≤ high)
number_at_ok low high key t n h = let d = some_of (number_of low high) (get_member key t) n h in number_ok low high d.0 n d.2

pub reference_ok : (key : List ℕ) (t : Members) (r : ℕ) → reference key t ≡ Some r → r < 2 ^ 32
reference_ok key t r h = let k = (number_at_ok 0 (2 ^ 32 - 1) key t r h).1 in omega (arith, k)

-- so many tables stand at a key
pub tables_ok : (low high : ℕ) (key : List ℕ) (t : Members) (rows : List Members) → tables low high key t ≡ Some rows → (low ≤ length rows) × (length rows ≤ high)
tables_ok low high key t rows h =
    let d = some_of (tables_in low high) (get_member key t) rows h in
    let ds = some_of (some_tables low high) (as_array d.0) rows d.2 in
    let k = if_some (are_some_tables low high ds.0) (tables_of ds.0) rows ds.2 in
    subst (λ xs. (low ≤ length xs) × (length xs ≤ high)) k.0
    (within low high (length (tables_of ds.0)) (and_parts (are_tables ds.0) (is_within low high (length (tables_of ds.0))) k.1).1)

pub bind_ok : {E A B : Type 0} (r : Result A E) (f : A → Result B E) (y : B) → (r >>= f) ≡ Ok y → (x : A) × (r ≡ Ok x) × (f x ≡ Ok y)
bind_ok (Ok x) f y h = (x, refl, h)
bind_ok (Err e) f y h = absurd (cc)

-- what each item keeps, all of them keep
pub each_keeps : {E T A : Type 0} (P : List A → Type 0) (read : List A → T → Result A E)
    → ((before : List A) (t : T) (x : A) → P before → read before t ≡ Ok x → P (before ++ x ∷ []))
    → (before : List A) (ts : List T) (all : List A) → P before → each read before ts ≡ Ok all → P all
each_keeps P read step before [] all p h = let e : before ≡ all = cc in subst P e p
each_keeps P read step before (t ∷ ts) all p h =
    let k = bind_ok (read before t) (λ x. each read (before ++ x ∷ []) ts) all h in
    each_keeps P read step (before ++ k.0 ∷ []) ts all (step before t k.0 p k.1) k.2

pub either_false : (a b : Bool) → (a || b) ≡ false → (a ≡ false) × (b ≡ false)
either_false true b h = absurd (cc)
either_false false b h = (refl, h)

pub flipped : (x y : ℕ) → (y == x) ≡ false → (x == y) ≡ false
flipped x y h = grind (arith, nat_tests)

neither : (a b : Bool) → a ≡ false → b ≡ false → (a || (b || false)) ≡ false
neither a b p q = rw (p, q)

-- one more that is none of them
pub different_more : (xs : List ℕ) (x : ℕ) → AreDifferent xs → list_any (λ y. y == x) xs ≡ false → AreDifferent (xs ++ x ∷ [])
different_more [] x d h = (refl, tt)
different_more (y ∷ ys) x d h =
    let k = either_false (y == x) (list_any (λ z. z == x) ys) h in
    (list_any-append (λ z. z == y) ys (x ∷ []) ∙ neither (list_any (λ z. z == y) ys) (x == y) d.0 (flipped x y k.0), different_more ys x d.1 k.1)

pub any_of_map : {A : Type 0} (f : A → ℕ) (r : ℕ) (xs : List A) → list_any (λ y. y == r) (map f xs) ≡ list_any (λ x. f x == r) xs
any_of_map f r [] = refl
any_of_map f r (x ∷ xs) = ap (λ b. (f x == r) || b) (any_of_map f r xs)

pub map_more : {A : Type 0} (f : A → ℕ) (xs : List A) (x : A) → map f (xs ++ x ∷ []) ≡ map f xs ++ f x ∷ []
map_more f [] x = refl
map_more f (y ∷ ys) x = ap (λ zs. f y ∷ zs) (map_more f ys x)

pub all_more : {A : Type 0} (P : A → Type 0) (xs : List A) (x : A) → AllByRecursion P xs → P x → AllByRecursion P (xs ++ x ∷ [])
all_more P [] x a p = (p, tt)
all_more P (y ∷ ys) x a p = (a.0, all_more P ys x a.1 p)

-- one value a row
pub each_length : {E T A : Type 0} (read : List A → T → Result A E) (before : List A) (ts : List T) (all : List A) → each read before ts ≡ Ok all → length all ≡ length before + length ts
each_length read before [] all h = let e : before ≡ all = cc in subst (λ xs. length xs ≡ length before + 0) e (omega arith)
each_length read before (t ∷ ts) all h =
    let k = bind_ok (read before t) (λ x. each read (before ++ x ∷ []) ts) all h in
    let rest = each_length read (before ++ k.0 ∷ []) ts all k.2 in
    omega (arith, rest, length-append before (k.0 ∷ []))
