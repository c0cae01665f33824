-- A session of a node, and what holds of nodes and units behind it.
use Rattle.std.proofs.Common.{◌≡◌, ◌≤◌, ◌+◌, ◌-◌, ℕ, zero, suc, List, [], ◌∷◌, All, drop, length, map, replicate, take, Option, None, slice_set, arith, refl, sym, ap, ◌∙◌, subst}
use Rattle.std.proofs.lemmas.List.{length-drop}
use Rattle.std.proofs.lemmas.List.Elements.{All-cons, All-head, All-nil, All-tail}
use Rattle.fmi_states.specs.declared.phase.Phase.{Phase}
use Rattle.fmi_states.specs.declared.phase.Phase.TheVariants.{Step}
use Rattle.log_specs.specs.Line.{Cause, Trap, Spent, Status2, Status3, Status4, BadReply, BadBuffer, Loop, BadInterval}
use Rattle.session_specs.specs.Outcome.{End, SessionOut, DueChange}
use Rattle.session_specs.specs.Outcome as session
use Rattle.session_specs.specs.Session.{phase_behind}
use Rattle.world_specs.specs.World as model
use Rattle.world_specs.specs.Plan.{NodePlan}
use Rattle.world_specs.specs.Sessions.{clock_after, clocks_after, clocks_of, standing_after}
use Rattle.world_core.specs.Clocks.{changed, settled}
use Rattle.world_core.specs.Courses.{standing_of}
use Rattle.world_core.specs.Kept.{IsInPhase, Pairwise, unused}
use Rattle.world_core.specs.Settled.{entries_behind, standing_behind}
use Rattle.world_core.specs.declared.standing.Standing.{Standing}
use Rattle.world_core.specs.declared.standing.Standing.TheVariants.{New, Live, Down, Over}
use Rattle.world_core.proofs.Entries.{changed-clocks, changed-unused, cleared-own, settled-before, settled-beyond, settled-length, settled-own, unset-clocks}

-- ---- one by one

pub pair-set : {X Y : Type 0} (P : X → Y → Type 0) (i : ℕ) (xs : List X) (ys : List Y) (x : X) (y : Y) → P x y → Pairwise P xs ys → Pairwise P (slice_set xs i x) (slice_set ys i y)
pair-set P i [] [] x y p h = h
pair-set P i [] (v ∷ ys) x y p h = absurd h
pair-set P i (u ∷ xs) [] x y p h = absurd h
pair-set P zero (u ∷ xs) (v ∷ ys) x y p h = (p, h.1)
pair-set P (suc i) (u ∷ xs) (v ∷ ys) x y p h = (h.0, pair-set P i xs ys x y p h.1)

pub pair-map : {X Y Z : Type 0} (P : X → Z → Type 0) (f : Y → Z) (xs : List X) (ys : List Y) → Pairwise (λ x y. P x (f y)) xs ys → Pairwise P xs (map f ys)
pair-map P f [] [] h = h
pair-map P f [] (y ∷ ys) h = absurd h
pair-map P f (x ∷ xs) [] h = absurd h
pair-map P f (x ∷ xs) (y ∷ ys) h = (h.0, pair-map P f xs ys h.1)

pub map-pair : {X Y Z : Type 0} (P : X → Z → Type 0) (f : Y → Z) (xs : List X) (ys : List Y) → Pairwise P xs (map f ys) → Pairwise (λ x y. P x (f y)) xs ys
map-pair P f [] [] h = h
map-pair P f [] (y ∷ ys) h = absurd h
map-pair P f (x ∷ xs) [] h = absurd h
map-pair P f (x ∷ xs) (y ∷ ys) h = (h.0, map-pair P f xs ys h.1)

-- ---- the phase behind a session

not-step : (why : Cause) → phase_behind (session.Down why) ≡ Step → ⊥
not-step Trap e = cc
not-step Spent e = cc
not-step Status2 e = cc
not-step Status3 e = cc
not-step Status4 e = cc
not-step BadReply e = cc
not-step BadBuffer e = cc
not-step Loop e = cc
not-step BadInterval e = cc

pub in-phase : (now : ℕ) (end : End) (p : Phase) → p ≡ phase_behind end → IsInPhase (standing_behind now end) p
in-phase now session.Live p e = e
in-phase now session.Over p e = λ s. let q : phase_behind session.Over ≡ Step = sym e ∙ s in cc
in-phase now (session.Down why) p e = λ s. not-step why (sym e ∙ s)

-- ---- the entries behind a session

-- a node's clocks are new or live
abbrev pub HasClocks : Standing → Type 0
HasClocks New = Unit {0}
HasClocks (Live last) = Unit {0}
HasClocks Down = ⊥
HasClocks Over = ⊥

module _ (now first count : ℕ) (dues : List DueChange) (cs : List (Option ℕ)) (room : first + 8 ≤ length cs) (few : count ≤ 8) (each : length dues ≡ count) where
  pub entries-length : (e : End) → length (entries_behind now first count e dues cs) ≡ length cs
  entries-length session.Live = settled-length now first dues cs
  entries-length session.Over = settled-length 0 first (replicate count session.Clear) cs
  entries-length (session.Down why) = settled-length 0 first (replicate count session.Clear) cs

  pub entries-before : (e : End) → take first (entries_behind now first count e dues cs) ≡ take first cs
  entries-before session.Live = settled-before now first dues cs (omega (arith, room))
  entries-before session.Over = settled-before 0 first (replicate count session.Clear) cs (omega (arith, room))
  entries-before (session.Down why) = settled-before 0 first (replicate count session.Clear) cs (omega (arith, room))

  cleared-count : (n : ℕ) → length (replicate n session.Clear) ≡ n
  cleared-count zero = refl
  cleared-count (suc n) = ap suc (cleared-count n)

  pub entries-beyond : (e : End) → drop (first + 8) (entries_behind now first count e dues cs) ≡ drop (first + 8) cs
  entries-beyond session.Live = settled-beyond now first dues cs (omega (arith, room)) (omega (arith, few, each))
  entries-beyond session.Over = settled-beyond 0 first (replicate count session.Clear) cs (omega (arith, room)) (let k = cleared-count count in omega (arith, few, k))
  entries-beyond (session.Down why) = settled-beyond 0 first (replicate count session.Clear) cs (omega (arith, room)) (let k = cleared-count count in omega (arith, few, k))

-- ---- the clocks and the other entries of the node

all-front : {X : Type 0} (P : X → Type 0) (m n : ℕ) (xs : List X) → m ≤ n → All P (take n xs) → All P (take m xs)
all-front P zero n xs l h = All-nil P
all-front P (suc m) zero xs l h = absurd (omega (arith, l))
all-front P (suc m) (suc n) [] l h = h
all-front P (suc m) (suc n) (x ∷ xs) l h = All-cons P x (take m xs) (All-head P x (take n xs) h) (all-front P m n xs (omega (arith, l)) (All-tail P x (take n xs) h))

all-behind : {X : Type 0} (P : X → Type 0) (n : ℕ) (xs : List X) → All P xs → All P (drop n xs)
all-behind P zero xs h = h
all-behind P (suc n) [] h = h
all-behind P (suc n) (x ∷ xs) h = all-behind P n xs (All-tail P x xs h)

changed-take : (now n : ℕ) (ds : List DueChange) (cs : List (Option ℕ)) → length ds ≤ n → take n (changed now ds cs) ≡ changed now ds (take n cs)
changed-take now n [] cs l = refl
changed-take now zero (d ∷ ds) cs l = absurd (omega (arith, l))
changed-take now (suc n) (d ∷ ds) [] l = refl
changed-take now (suc n) (d ∷ ds) (c ∷ cs) l = ap (λ k. clock_after now d c ∷ k) (changed-take now n ds cs (omega (arith, l)))

short-take : {X : Type 0} (m n : ℕ) (xs : List X) → n ≤ length xs → length (take n xs) ≡ n
short-take m zero xs l = refl
short-take m (suc n) [] l = absurd (omega (arith, l))
short-take m (suc n) (x ∷ xs) l = ap suc (short-take m n xs (omega (arith, l)))

module _ {S : Type 0} (now first : ℕ) (n : NodePlan) (t : Standing) (state after : S) (out : SessionOut) (cs : List (Option ℕ))
    (room : first + 8 ≤ length cs) (few : length n.description.countdown ≤ 8) (each : length out.dues ≡ length n.description.countdown)
    (has : HasClocks t) (unset : All (λ c. c ≡ None) (unused n t (take 8 (drop first cs)))) where
  count : ℕ
  count = length n.description.countdown

  own-room : 8 ≤ length (drop first cs)
  own-room = simp length-drop (omega (arith, room))

  -- the standing that the definitions name
  pub standing-is : (e : End) → standing_of (standing_behind now e) after (take (length n.description.countdown) (drop first (entries_behind now first (length n.description.countdown) e out.dues cs)))
      ≡ standing_after now out after (standing_of t state (take (length n.description.countdown) (drop first cs))) e
  standing-is session.Over = refl
  standing-is (session.Down why) = refl
  standing-is session.Live =
      ap (λ l. model.Live after now (take (length n.description.countdown) l)) (settled-own now first out.dues cs (omega (arith, room)))
      ∙ ap (λ k. model.Live after now (take k (changed now out.dues (drop first cs)))) (sym each)
      ∙ ap (model.Live after now) (changed-clocks now out.dues (drop first cs) (let r = own-room in omega (arith, r, few, each)))
      ∙ ap (λ k. model.Live after now (clocks_after now out.dues (take k (drop first cs)))) each
      ∙ ap (model.Live after now) (by t has unset)
    where
      by : (t : Standing) → HasClocks t → All (λ c. c ≡ None) (unused n t (take 8 (drop first cs)))
          → clocks_after now out.dues (take (length n.description.countdown) (drop first cs))
          ≡ clocks_after now out.dues (clocks_of (standing_of t state (take (length n.description.countdown) (drop first cs))))
      by (Live last) h u = refl
      by New h u = unset-clocks now out.dues (take (length n.description.countdown) (drop first cs))
          (all-front (λ (c : Option ℕ). c ≡ None) (length n.description.countdown) 8 (drop first cs) few u)
          (let k = short-take 0 (length n.description.countdown) (drop first cs) (let r = own-room in omega (arith, r, few)) in omega (arith, k, each))
      by Down h u = absurd h
      by Over h u = absurd h

  others-unset : (t : Standing) → HasClocks t → All (λ c. c ≡ None) (unused n t (take 8 (drop first cs))) → All (λ c. c ≡ None) (drop (length n.description.countdown) (take 8 (drop first cs)))
  others-unset (Live last) h u = u
  others-unset New h u = all-behind (λ (c : Option ℕ). c ≡ None) (length n.description.countdown) (take 8 (drop first cs)) u
  others-unset Down h u = absurd h
  others-unset Over h u = absurd h

  cleared-unset : All (λ c. c ≡ None) (take 8 (drop first (settled 0 first (replicate (length n.description.countdown) session.Clear) cs)))
  cleared-unset =
      let k = cleared-count now first (length n.description.countdown) out.dues cs room few each (length n.description.countdown) in
      subst (λ l. All (λ (c : Option ℕ). c ≡ None) (take 8 l)) (sym (settled-own 0 first (replicate (length n.description.countdown) session.Clear) cs (omega (arith, room))))
      (subst (All (λ (c : Option ℕ). c ≡ None)) (sym (changed-take 0 8 (replicate (length n.description.countdown) session.Clear) (drop first cs) (omega (arith, few, k))))
      (cleared-own (length n.description.countdown) (take 8 (drop first cs)) (others-unset t has unset)))

  pub unset-behind : (e : End) → All (λ c. c ≡ None) (unused n (standing_behind now e) (take 8 (drop first (entries_behind now first (length n.description.countdown) e out.dues cs))))
  unset-behind session.Live =
      let m : ℕ = 8 - length n.description.countdown in
      let whole : length n.description.countdown + m ≡ 8 = omega (arith, few) in
      subst (λ l. All (λ (c : Option ℕ). c ≡ None) (drop (length n.description.countdown) (take 8 l))) (sym (settled-own now first out.dues cs (omega (arith, room))))
      (subst (All (λ (c : Option ℕ). c ≡ None)) (sym (changed-unused now out.dues (drop first cs) (length n.description.countdown) m whole (omega (arith, each))))
      (others-unset t has unset))
  unset-behind session.Over = cleared-unset
  unset-behind (session.Down why) = cleared-unset
