-- A walk that changes one bus after the other: those so far are changed, and the others are as they were.
use Rattle.std.proofs.Common.{◌≡◌, ◌<◌, ◌+◌, ℕ, List, [], ◌∷◌, ◌++◌, All, flat_map, map, set, take, drop, length, get_or, ap, sym, ◌∙◌, arith, append_assoc, subst}
use Rattle.std.proofs.lemmas.List.{drop_more, take_more_set, drop-set-lt}
use Rattle.std.proofs.lemmas.List.Elements.{All-head, All-tail}
use Rattle.log_specs.specs.Line.{Line}
use Rattle.bus_specs.specs.Bus.{Bus}
use Rattle.world_specs.specs.Plan.{AllFrom}
use Rattle.world_core.specs.OnBuses.{HasNumber}

module _ (bs : List Bus) (i : ℕ) (b after : Bus) (inside : i < length bs) where
  behind : drop (i + 1) (set bs i after) ≡ drop (i + 1) bs
  behind = drop-set-lt (i + 1) bs i after (omega arith)

  pub walked-buses : (f : Bus → Bus) (all : List Bus) → b ≡ get_or bs i b → after ≡ f b → take i bs ++ map f (drop i bs) ≡ all
      → take (i + 1) (set bs i after) ++ map f (drop (i + 1) (set bs i after)) ≡ all
  walked-buses f all at e whole =
      ap (λ l. take (i + 1) (set bs i after) ++ map f l) behind
      ∙ ap (λ l. l ++ map f (drop (i + 1) bs)) (take_more_set bs i after inside)
      ∙ append_assoc (take i bs) (after ∷ []) (map f (drop (i + 1) bs))
      ∙ ap (λ x. take i bs ++ x ∷ map f (drop (i + 1) bs)) (e ∙ ap f at)
      ∙ ap (λ l. take i bs ++ map f l) (sym (drop_more bs i b inside))
      ∙ whole

  pub walked-lines : (g : Bus → List Line) (before now more all : List Line) → b ≡ get_or bs i b → more ≡ g b → now ≡ before ++ more → before ++ flat_map g (drop i bs) ≡ all
      → now ++ flat_map g (drop (i + 1) (set bs i after)) ≡ all
  walked-lines g before now more all at e n whole =
      ap (λ l. now ++ flat_map g l) behind
      ∙ ap (λ l. l ++ flat_map g (drop (i + 1) bs)) (n ∙ ap (λ l. before ++ l) e)
      ∙ append_assoc before (g b) (flat_map g (drop (i + 1) bs))
      ∙ ap (λ x. before ++ (g x ++ flat_map g (drop (i + 1) bs))) at
      ∙ ap (λ l. before ++ flat_map g l) (sym (drop_more bs i b inside))
      ∙ whole

  pub walked-all : (P : Bus → Type 0) → All P (drop i bs) → All P (drop (i + 1) (set bs i after))
  walked-all P h = subst (All P) (sym behind) (All-tail P (get_or bs i b) (drop (i + 1) bs) (subst (All P) (drop_more bs i b inside) h))

  pub walked-one : (P : Bus → Type 0) → b ≡ get_or bs i b → All P (drop i bs) → P b
  walked-one P at h = subst P (sym at) (All-head P (get_or bs i b) (drop (i + 1) bs) (subst (All P) (drop_more bs i b inside) h))

  pub walked-numbers : AllFrom i HasNumber (drop i bs) → AllFrom (i + 1) HasNumber (drop (i + 1) (set bs i after))
  walked-numbers h =
      let k : AllFrom i HasNumber (get_or bs i b ∷ drop (i + 1) bs) = subst (AllFrom i HasNumber) (drop_more bs i b inside) h in
      subst (AllFrom (i + 1) HasNumber) (sym behind) k.1

  pub walked-number : b ≡ get_or bs i b → AllFrom i HasNumber (drop i bs) → b.setup.number ≡ i
  walked-number at h =
      let k : AllFrom i HasNumber (get_or bs i b ∷ drop (i + 1) bs) = subst (AllFrom i HasNumber) (drop_more bs i b inside) h in
      subst (HasNumber i) (sym at) k.0
