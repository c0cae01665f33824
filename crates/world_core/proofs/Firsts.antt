-- The first of events: of two, of a list of options, and of all of a network.
use Rattle.std.proofs.Common.{◌≡◌, ◌⊎◌, ℕ, ◌==◌, ◌&&◌, ◌||◌, Bool, true, false, List, [], ◌∷◌, fold, map, flat_map, nat_lt, Option, Some, None, is_some, sym, refl, ap, ◌∙◌, subst, inl, inr}
use Rattle.std.specs.Prelude.{if◌then◌else◌}
use Rattle.std.proofs.lemmas.Bool.{both_ways, false_from_ne_true}
use Rattle.run_specs.specs.Order.{foremost}
use Rattle.bus_sound.proofs.Among.{Among, among-append_left}
use Rattle.bus_sound.proofs.Lists.{append-among, among-append_right}
use Rattle.bus_sound.proofs.Orders.{foremost-some, foremost-among, foremost-unbeaten}
use Rattle.world_specs.specs.World.{World}
use Rattle.world_specs.specs.Next.{What, Finish, Return, Sessions, Start, Event, rank, comes_before, precedes, enabled, up_to, next_event}
use Rattle.world_laws.proofs.Order.{precedes-order, one-event}
use Rattle.world_core.specs.First.{numbers_of, are_before, earlier}

-- ---- two of one moment

nothing-else : (x y : Bool) → (x || (y && false)) ≡ x
nothing-else true y = refl
nothing-else false true = refl
nothing-else false false = refl

-- ranks compare as kind, bus and node do
pub by-numbers : (x y : What) → comes_before (rank x) (rank y) ≡ are_before (numbers_of x) (numbers_of y)
by-numbers (Finish b) (Finish c) = refl
by-numbers (Finish b) (Return c n) = refl
by-numbers (Finish b) Sessions = refl
by-numbers (Finish b) (Start c) = refl
by-numbers (Return b m) (Finish c) = refl
by-numbers (Return b m) (Return c n) = ap (λ q. nat_lt b c || ((b == c) && q)) (nothing-else (nat_lt m n) (m == n))
by-numbers (Return b m) Sessions = refl
by-numbers (Return b m) (Start c) = refl
by-numbers Sessions (Finish c) = refl
by-numbers Sessions (Return c n) = refl
by-numbers Sessions Sessions = refl
by-numbers Sessions (Start c) = refl
by-numbers (Start b) (Finish c) = refl
by-numbers (Start b) (Return c n) = refl
by-numbers (Start b) Sessions = refl
by-numbers (Start b) (Start c) = refl

-- ---- the first of two

-- there is one before which this event doesn't come
pub record Beaten (f : Event) (o : Option Event) : Type 0 where
  pub by : Event
  pub there : o ≡ Some by
  pub unbeaten : precedes f by ≡ false

pub itself : (e : Event) → Beaten e (Some e)
itself e = record { by = e; there = refl; unbeaten = precedes-order.itself e }

-- what an event beats, one before it beats
over-first : (x y f : Event) → precedes y x ≡ true → precedes f x ≡ false → precedes f y ≡ false
over-first x y f e h = false_from_ne_true (precedes f y) (λ t. both_ways (precedes f x) h (precedes-order.through f y x t e))

over-other : (x y f : Event) → precedes y x ≡ false → precedes f y ≡ false → precedes f x ≡ false
over-other x y f e h = false_from_ne_true (precedes f x) (λ t. both_ways (precedes f y) h (precedes-order.over f y x t e))

beaten-left : (f : Event) (o q : Option Event) → Beaten f o → Beaten f (earlier o q)
beaten-left f None q h = absurd (none h.there)
  where
    none : None ≡ Some h.by → ⊥
    none e = cc
beaten-left f (Some x) None h = h
beaten-left f (Some x) (Some y) h = go (precedes y x) refl
  where
    own : precedes f x ≡ false
    own = let s : x ≡ h.by = same h.there in subst (λ z. precedes f z ≡ false) (sym s) h.unbeaten
      where
        same : Some x ≡ Some h.by → x ≡ h.by
        same e = cc

    go : (b : Bool) → precedes y x ≡ b → Beaten f (if b then Some y else Some x)
    go true e = record { by = y; there = refl; unbeaten = over-first x y f e own }
    go false e = record { by = x; there = refl; unbeaten = own }

beaten-right : (f : Event) (o q : Option Event) → Beaten f q → Beaten f (earlier o q)
beaten-right f None q h = h
beaten-right f (Some x) None h = absurd (none h.there)
  where
    none : None ≡ Some h.by → ⊥
    none e = cc
beaten-right f (Some x) (Some y) h = go (precedes y x) refl
  where
    own : precedes f y ≡ false
    own = let s : y ≡ h.by = same h.there in subst (λ z. precedes f z ≡ false) (sym s) h.unbeaten
      where
        same : Some y ≡ Some h.by → y ≡ h.by
        same e = cc

    go : (b : Bool) → precedes y x ≡ b → Beaten f (if b then Some y else Some x)
    go true e = record { by = y; there = refl; unbeaten = own }
    go false e = record { by = x; there = refl; unbeaten = over-other x y f e own }

one-of-two : (o q : Option Event) (e : Event) → earlier o q ≡ Some e → (o ≡ Some e) ⊎ (q ≡ Some e)
one-of-two None q e h = inr h
one-of-two (Some x) None e h = inl h
one-of-two (Some x) (Some y) e h = go (precedes y x) h
  where
    go : (b : Bool) → (if b then Some y else Some x) ≡ Some e → (Some x ≡ Some e) ⊎ (Some y ≡ Some e)
    go true k = inr k
    go false k = inl k

-- ---- the first of those of which P holds

pub record IsFirst (P : Event → Type 0) (o : Option Event) : Type 0 where
  pub is : (e : Event) → o ≡ Some e → P e
  pub before : (f : Event) → P f → Beaten f o

-- of all that is one of the first or beaten by the other
pub joined : (P R : Event → Type 0) (o q : Option Event) → IsFirst P o → ((e : Event) → P e → R e) → ((e : Event) → q ≡ Some e → R e)
    → ((f : Event) → R f → P f ⊎ Beaten f q) → IsFirst R (earlier o q)
joined P R o q h here there all = record {
  is = λ e k. by (one-of-two o q e k);
  before = λ f r. go f (all f r);
}
  where
    by : {e : Event} → (o ≡ Some e) ⊎ (q ≡ Some e) → R e
    by {e} (inl k) = here e (h.is e k)
    by {e} (inr k) = there e k

    go : (f : Event) → P f ⊎ Beaten f q → Beaten f (earlier o q)
    go f (inl p) = beaten-left f o q (h.before f p)
    go f (inr b) = beaten-right f o q b

-- of several lists
folded : {X : Type 0} (f : X → List Event) (g : X → Option Event) (xs : List X) (P : Event → Type 0) (o : Option Event)
    → ((x : X) → Among xs x → IsFirst (Among (f x)) (g x)) → IsFirst P o → IsFirst (λ e. P e ⊎ Among (flat_map f xs) e) (fold earlier o (map g xs))
folded f g [] P o each h = record { is = λ e k. inl (h.is e k); before = λ e k. go e k }
  where
    go : (e : Event) → P e ⊎ ⊥ → Beaten e o
    go e (inl p) = h.before e p
    go e (inr a) = absurd a
folded {X} f g (x ∷ xs) P o each h =
    let first = each x (inl refl) in
    let both : IsFirst (λ e. P e ⊎ Among (f x) e) (earlier o (g x)) =
    joined P (λ e. P e ⊎ Among (f x) e) o (g x) h (λ e p. inl p) (λ e k. inr (first.is e k)) (λ e r. more first e r) in
    let rest = folded f g xs (λ e. P e ⊎ Among (f x) e) (earlier o (g x)) (λ y a. each y (inr a)) both in
    record { is = λ e k. out e (rest.is e k); before = λ e k. rest.before e (back e k) }
  where
    more : IsFirst (Among (f x)) (g x) → (e : Event) → P e ⊎ Among (f x) e → P e ⊎ Beaten e (g x)
    more first e (inl p) = inl p
    more first e (inr a) = inr (first.before e a)

    out : (e : Event) → (P e ⊎ Among (f x) e) ⊎ Among (flat_map f xs) e → P e ⊎ Among (flat_map f (x ∷ xs)) e
    out e (inl (inl p)) = inl p
    out e (inl (inr a)) = inr (among-append_left (f x) (flat_map f xs) e a)
    out e (inr a) = inr (among-append_right (f x) (flat_map f xs) e a)

    split : (e : Event) → Among (f x) e ⊎ Among (flat_map f xs) e → (P e ⊎ Among (f x) e) ⊎ Among (flat_map f xs) e
    split e (inl a) = inl (inr a)
    split e (inr a) = inr a

    back : (e : Event) → P e ⊎ Among (flat_map f (x ∷ xs)) e → (P e ⊎ Among (f x) e) ⊎ Among (flat_map f xs) e
    back e (inl p) = inl (inl p)
    back e (inr a) = split e (append-among (f x) (flat_map f xs) e a)

pub of-lists : {X : Type 0} (f : X → List Event) (g : X → Option Event) (xs : List X)
    → ((x : X) → Among xs x → IsFirst (Among (f x)) (g x)) → IsFirst (Among (flat_map f xs)) (fold earlier None (map g xs))
of-lists f g xs each =
    let h = folded f g xs (λ e. ⊥) None each (record { is = λ e k. absurd (none e k); before = λ e p. absurd p }) in
    record { is = λ e k. go e (h.is e k); before = λ e a. h.before e (inr a) }
  where
    none : (e : Event) → None ≡ Some e → ⊥
    none e k = cc

    go : (e : Event) → ⊥ ⊎ Among (flat_map f xs) e → Among (flat_map f xs) e
    go e (inl b) = absurd b
    go e (inr a) = a

-- ---- the next event

pub first-is : (xs : List Event) (o : Option Event) → IsFirst (Among xs) o → foremost precedes xs ≡ o
first-is xs None h = go (foremost precedes xs) refl
  where
    none : (e : Event) → Beaten e None → ⊥
    none e b = empty b.there
      where
        empty : None ≡ Some b.by → ⊥
        empty k = cc

    go : (q : Option Event) → foremost precedes xs ≡ q → foremost precedes xs ≡ None
    go None e = e
    go (Some f) e = absurd (none f (h.before f (foremost-among precedes xs f e)))
first-is xs (Some x) h = go (foremost precedes xs) refl
  where
    here : Among xs x
    here = h.is x refl

    by-x : (f : Event) → Beaten f (Some x) → precedes f x ≡ false
    by-x f b = let s : x ≡ b.by = same b.there in subst (λ z. precedes f z ≡ false) (sym s) b.unbeaten
      where
        same : Some x ≡ Some b.by → x ≡ b.by
        same e = cc

    go : (q : Option Event) → foremost precedes xs ≡ q → foremost precedes xs ≡ Some x
    go None e = absurd (both_ways false refl (sym (ap is_some e) ∙ foremost-some precedes xs x here))
    go (Some f) e = e ∙ ap Some (one-event f x (by-x f (h.before f (foremost-among precedes xs f e))) (foremost-unbeaten precedes precedes-order xs f x e here))

pub next-is-first : {S : Type 0} (stop : ℕ) (w : World S) (o : Option Event) → IsFirst (Among (enabled w)) o → up_to stop o ≡ next_event stop w
unfolding next_event
next-is-first stop w o h = ap (up_to stop) (sym (first-is (enabled w) o h))
