-- A walk that changes one member after the other.
use Rattle.std.proofs.Common.{◌≡◌, ◌<◌, ◌+◌, ℕ, List, [], ◌∷◌, ◌++◌, All, map, set, take, drop, length, get_or, ap, sym, ◌∙◌, arith, append_assoc}
use Rattle.std.proofs.lemmas.List.{drop_more, take_more_set, drop-set-lt}
use Rattle.std.proofs.lemmas.List.Elements.{All-tail}
use Rattle.bus_specs.specs.Bus.{Member}

module _ (f : Member → Member) (ms : List Member) (i : ℕ) (m m' : Member) (inside : i < length ms) where
  behind : drop (i + 1) (set ms i m') ≡ drop (i + 1) ms
  behind = drop-set-lt (i + 1) ms i m' (omega arith)

  pub walked-changed : (all : List Member) → m ≡ get_or ms i m → m' ≡ f m → take i ms ++ map f (drop i ms) ≡ all
      → take (i + 1) (set ms i m') ++ map f (drop (i + 1) (set ms i m')) ≡ all
  walked-changed all at e whole =
      ap (λ l. take (i + 1) (set ms i m') ++ map f l) behind
      ∙ ap (λ l. l ++ map f (drop (i + 1) ms)) (take_more_set ms i m' inside)
      ∙ append_assoc (take i ms) (m' ∷ []) (map f (drop (i + 1) ms))
      ∙ ap (λ x. take i ms ++ x ∷ map f (drop (i + 1) ms)) (e ∙ ap f at)
      ∙ ap (λ l. take i ms ++ map f l) (sym (drop_more ms i m inside))
      ∙ whole

  pub walked-room : (P : Member → Type 0) → All P (drop i ms) → All P (drop (i + 1) (set ms i m'))
  walked-room P h = rw behind (All-tail P (get_or ms i m) (drop (i + 1) ms) (rw (drop_more ms i m inside) at h))
