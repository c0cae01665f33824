-- A request that stands first of its node's equal frames, and what waits where such ones go.
use Rattle.std.proofs.Common.{◌≡◌, ℕ, ◌==◌, Bool, true, false, not, List, [], ◌∷◌, ◌++◌, map, filter, arith, sym, refl, ap, ◌∙◌, subst, inl, inr, eq-eqb}
use Rattle.std.specs.Prelude.{◌&&◌, ◌||◌, bytes_eq}
use Rattle.std.specs.Bool.{beq}
use Rattle.std.specs.List.{list_any}
use Rattle.std.proofs.lemmas.Bool.{and_parts, and_from, and_right, not_from_false, eqb-true, false_from_ne_true}
use Rattle.std.proofs.lemmas.Slice.Eq.{bytes_eq-Decides}
use Rattle.frame_specs.specs.Frame.{Frame, Kind, Data, Remote, Fd}
use Rattle.bus_specs.specs.Bus.{Request}
use Rattle.bus_specs.specs.Start.{is_same, is_gone}
use Rattle.bus_specs.specs.Sound.{Rise}
use Rattle.bus_specs.specs.Waits.{Waiting, same_kind, same_frame, is_meant, without_first, waiting_of}
use Rattle.bus_sound.proofs.Among.{Among, filter-among}
use Rattle.bus_sound.proofs.Lists.{any_from}
use Rattle.log_laws.proofs.Rows.{filter-append, filter-same, filter-all, filter-both, map-append, rise-before, rise-behind}

kind-same : (k l : Kind) → same_kind k l ≡ true → k ≡ l
kind-same Data Data e = refl
kind-same Data Remote e = absurd cc
kind-same Data (Fd x y) e = absurd cc
kind-same Remote Data e = absurd cc
kind-same Remote Remote e = refl
kind-same Remote (Fd x y) e = absurd cc
kind-same (Fd x y) Data e = absurd cc
kind-same (Fd x y) Remote e = absurd cc
kind-same (Fd true true) (Fd true true) e = refl
kind-same (Fd true true) (Fd true false) e = absurd cc
kind-same (Fd true true) (Fd false z) e = absurd cc
kind-same (Fd true false) (Fd true true) e = absurd cc
kind-same (Fd true false) (Fd true false) e = refl
kind-same (Fd true false) (Fd false z) e = absurd cc
kind-same (Fd false true) (Fd true z) e = absurd cc
kind-same (Fd false true) (Fd false true) e = refl
kind-same (Fd false true) (Fd false false) e = absurd cc
kind-same (Fd false false) (Fd true z) e = absurd cc
kind-same (Fd false false) (Fd false true) e = absurd cc
kind-same (Fd false false) (Fd false false) e = refl

bool-same : (x y : Bool) → beq x y ≡ true → x ≡ y
bool-same true true e = refl
bool-same true false e = absurd cc
bool-same false true e = absurd cc
bool-same false false e = refl

pub frame-same : (f g : Frame) → same_frame f g ≡ true → f ≡ g
frame-same f g e =
    let a = and_parts ((f.id == g.id) && beq f.ext g.ext && same_kind f.kind g.kind) (bytes_eq f.bytes g.bytes) e in
    let b = and_parts ((f.id == g.id) && beq f.ext g.ext) (same_kind f.kind g.kind) a.0 in
    let c = and_parts (f.id == g.id) (beq f.ext g.ext) b.0 in
    parts f.id g.id f.ext g.ext f.kind g.kind f.bytes g.bytes (eqb-true f.id g.id c.0) (bool-same f.ext g.ext c.1) (kind-same f.kind g.kind b.1) ((bytes_eq-Decides f.bytes g.bytes).0 a.1)
  where
    parts : (i j : ℕ) (x y : Bool) (k l : Kind) (bs cs : List ℕ) → i ≡ j → x ≡ y → k ≡ l → bs ≡ cs
        → ◌≡◌ {A = Frame} (record { id = i; ext = x; kind = k; bytes = bs }) (record { id = j; ext = y; kind = l; bytes = cs })
    parts i j x y k l bs cs p q r s = rw (p, q, r, s) refl

bool-itself : (x : Bool) → beq x x ≡ true
bool-itself true = refl
bool-itself false = refl

kind-itself : (k : Kind) → same_kind k k ≡ true
kind-itself Data = refl
kind-itself Remote = refl
kind-itself (Fd x y) = and_from (beq x x) (beq y y) (bool-itself x) (bool-itself y)

pub frame-itself : (f : Frame) → same_frame f f ≡ true
frame-itself f = and_from ((f.id == f.id) && beq f.ext f.ext && same_kind f.kind f.kind) (bytes_eq f.bytes f.bytes)
    (and_from ((f.id == f.id) && beq f.ext f.ext) (same_kind f.kind f.kind)
    (and_from (f.id == f.id) (beq f.ext f.ext) (eq-eqb f.id f.id refl) (bool-itself f.ext)) (kind-itself f.kind))
    ((bytes_eq-Decides f.bytes f.bytes).1 refl)

abbrev pub shown : Request → Waiting
shown q = record { node = q.node; frame = q.frame }

abbrev pub meant : Request → Request → Bool
meant q x = is_meant q.node q.frame (shown x)

pub record First (rs : List Request) (q : Request) : Type 0 where
  pub earlier : List Request
  pub later : List Request
  pub place : rs ≡ earlier ++ q ∷ later
  pub alone : (x : Request) → Among earlier x → meant q x ≡ false

pub meant-itself : (q : Request) → meant q q ≡ true
meant-itself q = and_from (q.node == q.node) (same_frame q.frame q.frame) (eq-eqb q.node q.node refl) (frame-itself q.frame)

at-place : {X : Type 0} (xs ys : List X) (y : X) → Among (xs ++ y ∷ ys) y
at-place [] ys y = inl refl
at-place (x ∷ xs) ys y = inr (at-place xs ys y)

pub first-among : (rs : List Request) (q : Request) → First rs q → Among rs q
first-among rs q f = subst (λ l. Among l q) (sym f.place) (at-place f.earlier f.later q)

-- more requests behind it
pub first-push : (rs : List Request) (q x : Request) → First rs q → First (rs ++ x ∷ []) q
first-push rs q x f = record {
  earlier = f.earlier;
  later = f.later ++ x ∷ [];
  place = rw f.place (push f.earlier);
  alone = f.alone;
}
  where
    push : (l : List Request) → (l ++ q ∷ f.later) ++ x ∷ [] ≡ l ++ q ∷ (f.later ++ x ∷ [])
    push [] = refl
    push (y ∷ l) = ap (λ z. y ∷ z) (push l)

-- fewer requests, where it stays
pub first-filter : (rs : List Request) (q : Request) (p : Request → Bool) → First rs q → p q ≡ true → First (filter p rs) q
first-filter rs q p f e = record {
  earlier = filter p f.earlier;
  later = filter p f.later;
  place = ap (filter p) f.place ∙ filter-append p f.earlier (q ∷ f.later) ∙ ap (λ l. filter p f.earlier ++ l) stays;
  alone = λ x a. f.alone x (filter-among p f.earlier x a).0;
}
  where
    stays : filter p (q ∷ f.later) ≡ q ∷ filter p f.later
    stays = rw e refl

without-first : (earlier later : List Waiting) (w : Waiting) (p : Waiting → Bool) → ((x : Waiting) → Among earlier x → p x ≡ false) → p w ≡ true
    → without_first p (earlier ++ w ∷ later) ≡ earlier ++ later
without-first [] later w p h e = rw e refl
without-first (x ∷ earlier) later w p h e = rw (h x (inl refl)) (ap (λ l. x ∷ l) (without-first earlier later w p (λ y a. h y (inr a)) e))

-- the first that is meant goes
pub first-goes : (rs : List Request) (q : Request) (below : ℕ) → Rise 0 (map (λ (x : Request). x.number) rs) below → First rs q
    → without_first (is_meant q.node q.frame) (waiting_of rs) ≡ waiting_of (filter (λ x. not (is_same x q)) rs)
first-goes rs q below rise f =
    ap (λ l. without_first (is_meant q.node q.frame) (waiting_of l)) f.place
    ∙ ap (without_first (is_meant q.node q.frame)) (map-append shown f.earlier (q ∷ f.later))
    ∙ without-first (map shown f.earlier) (map shown f.later) (shown q) (is_meant q.node q.frame) (λ w a. alone f.earlier w f.alone a) (meant-itself q)
    ∙ sym (map-append shown f.earlier f.later)
    ∙ ap waiting_of (sym kept)
  where
    key : Request → ℕ
    key x = x.number

    rise' : Rise 0 (map (λ (x : Request). x.number) (f.earlier ++ q ∷ f.later)) below
    rise' = subst (λ l. Rise 0 (map (λ (x : Request). x.number) l) below) f.place rise

    alone : (l : List Request) (w : Waiting) → ((x : Request) → Among l x → meant q x ≡ false) → Among (map shown l) w → is_meant q.node q.frame w ≡ false
    alone [] w h a = absurd a
    alone (x ∷ l) w h (inl s) = subst (λ v. is_meant q.node q.frame v ≡ false) s (h x (inl refl))
    alone (x ∷ l) w h (inr a) = alone l w (λ y b. h y (inr b)) a

    other : (x : Request) → (x.number ≡ q.number → ⊥) → not (is_same x q) ≡ true
    other x n = not_from_false (is_same x q) (and_right (x.node == q.node) (x.number == q.number) (false_from_ne_true (x.number == q.number) (λ e. n (eqb-true x.number q.number e))))

    before : (x : Request) → Among f.earlier x → not (is_same x q) ≡ true
    before x a = let l = rise-before (λ (y : Request). y.number) 0 f.earlier f.later x q below rise' a in other x (λ e. omega (arith, l, e))

    after : (x : Request) → Among f.later x → not (is_same x q) ≡ true
    after x a = let l = rise-behind (λ (y : Request). y.number) 0 f.earlier f.later x q below rise' a in other x (λ e. omega (arith, l, e))

    itself : is_same q q ≡ true
    itself = and_from (q.node == q.node) (q.number == q.number) (eq-eqb q.node q.node refl) (eq-eqb q.number q.number refl)

    gone : filter (λ x. not (is_same x q)) (q ∷ f.later) ≡ f.later
    gone = rw itself (filter-all (λ x. not (is_same x q)) f.later after)

    kept : filter (λ x. not (is_same x q)) rs ≡ f.earlier ++ f.later
    kept = ap (filter (λ x. not (is_same x q))) f.place ∙ filter-append (λ x. not (is_same x q)) f.earlier (q ∷ f.later)
        ∙ rw (gone, filter-all (λ x. not (is_same x q)) f.earlier before) refl

-- what is there is found
pub first-found : (rs : List Request) (q : Request) → First rs q → list_any (is_meant q.node q.frame) (waiting_of rs) ≡ true
first-found rs q f = go rs (first-among rs q f)
  where
    go : (l : List Request) → Among l q → list_any (is_meant q.node q.frame) (waiting_of l) ≡ true
    go l a = any_from (is_meant q.node q.frame) (waiting_of l) (shown q) (put l a) (meant-itself q)
      where
        put : (l : List Request) → Among l q → Among (map shown l) (shown q)
        put [] a = absurd a
        put (x ∷ l) (inl s) = inl (ap shown s)
        put (x ∷ l) (inr a) = inr (put l a)

pub gone-cons : (d : Request) (ds rs : List Request) → filter (λ q. not (is_gone (d ∷ ds) q)) rs ≡ filter (λ q. not (is_gone ds q)) (filter (λ q. not (is_same q d)) rs)
gone-cons d ds rs = filter-same (λ q. not (is_gone (d ∷ ds) q)) (λ q. not (is_same q d) && not (is_gone ds q)) rs (λ q a. both (is_same q d) (is_gone ds q))
    ∙ filter-both (λ q. not (is_same q d)) (λ q. not (is_gone ds q)) rs
  where
    both : (t u : Bool) → not (t || u) ≡ (not t && not u)
    both true u = refl
    both false u = refl
