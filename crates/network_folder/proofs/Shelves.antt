-- What readers do to a shelf, one after the other.
use Rattle.std.proofs.Common.{◌≡◌, ◌⊎◌, inl, inr, refl, sym, ap, subst, ◌∙◌}
use Rattle.std.specs.Prelude.{Result, Ok, Err}
use Rattle.bench_outside.specs.Causes.{Rose}
use Rattle.bench_outside.specs.Shelf.{Faults}
use Rattle.bench_outside.specs.declared.shelf.Shelf.{Ghosts as shelf_ghosts}
use Rattle.bench_outside.specs.declared.refusal.FileId.{FileId}
use Rattle.network_folder.specs.declared.error.NetError.{NetError}
use Rattle.network_folder.specs.declared.error.NetError.TheVariants as answer
use Rattle.network_folder.specs.Shelves.{Reads}

-- an error of a type of answers
abbrev pub failed : (X : Type 0) → NetError → Result X NetError
failed X e = Err e

-- no error
abbrev pub done : Result (Unit {0}) NetError
done = Ok tt

abbrev found : {X : Type 0} → X → Result X NetError
found x = Ok x

blamed : {X : Type 0} (x : X) (a b : Faults) → ((file : FileId) × (found x ≡ Err (answer.Unread file))) ⊎ (a ≡ b) → a ≡ b
blamed x a b (inl wrong) = let w = wrong.1 in absurd (cc w)
blamed x a b (inr same) = same

module _ {H : Type 0} (shelf : shelf_ghosts H) where
  -- nothing was read
  pub untouched : {X : Type 0} (before : H) (result : Result X NetError) → ((file : FileId) → result ≡ Err (answer.Unread file) → ⊥) → Reads shelf before before result
  untouched before result not = record { unread = λ file e. absurd (not file e); unblamed = inr refl; holds = refl; others = refl }

  pub faults_stay : {X : Type 0} (before now : H) (x : X) → Reads shelf before now (Ok x) → shelf.read_faults now ≡ shelf.read_faults before
  faults_stay before now x r = blamed x (shelf.read_faults now) (shelf.read_faults before) r.unblamed

  -- what no failed read is answered with, and behind it another reader
  pub reads_on : {X Y : Type 0} (before mid now : H) (x : X) (result : Result Y NetError) → Reads shelf before mid (Ok x) → Reads shelf mid now result → Reads shelf before now result
  reads_on before mid now x result first next =
      let stay = faults_stay before mid x first in
      record {
        unread = λ file e. subst (λ (f : Faults). Rose f.count (shelf.read_faults now).count) stay (next.unread file e);
        unblamed = on stay next.unblamed;
        holds = next.holds ∙ first.holds;
        others = next.others ∙ first.others;
      }
    where
      on : {A : Type 0} {a b c : Faults} → b ≡ c → A ⊎ (a ≡ b) → A ⊎ (a ≡ c)
      on e (inl w) = inl w
      on e (inr s) = inr (s ∙ e)

  -- another answer that tells the same of failed reads
  pub reads_as : {X Y : Type 0} (before now : H) (r : Result X NetError) (s : Result Y NetError)
      → ((file : FileId) → r ≡ Err (answer.Unread file) → s ≡ Err (answer.Unread file)) → ((file : FileId) → s ≡ Err (answer.Unread file) → r ≡ Err (answer.Unread file))
      → Reads shelf before now r → Reads shelf before now s
  reads_as before now r s there back h = record {
    unread = λ file e. h.unread file (back file e);
    unblamed = go h.unblamed;
    holds = h.holds;
    others = h.others;
  }
    where
      go : ((file : FileId) × (r ≡ Err (answer.Unread file))) ⊎ (shelf.read_faults now ≡ shelf.read_faults before) → ((file : FileId) × (s ≡ Err (answer.Unread file))) ⊎ (shelf.read_faults now ≡ shelf.read_faults before)
      go (inl w) = inl (w.0, there w.0 w.1)
      go (inr e) = inr e

  -- the same error of another type
  pub reads_error : {X Y : Type 0} (before now : H) (e : NetError) → Reads shelf before now (failed X e) → Reads shelf before now (failed Y e)
  reads_error {X = X} {Y = Y} before now e h = reads_as before now (failed X e) (failed Y e) (λ file w. let same : e ≡ answer.Unread file = cc w in ap (λ x. Err x) same) (λ file w. let same : e ≡ answer.Unread file = cc w in ap (λ x. Err x) same) h
