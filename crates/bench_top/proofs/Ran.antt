-- What a run answers and writes, where this is what it has to.
use Rattle.std.proofs.Common.{◌≡◌, ◌⊎◌, ℕ, List, ◌∙◌, subst, inl, inr}
use Rattle.bench_outside.specs.declared.sink.Sink.{Ghosts}
use Rattle.bench_outside.specs.Pieces.{WritesAll}
use Rattle.bench_outside.specs.declared.refusal.FileId.{FileId}
use Rattle.bench_top.specs.declared.status.Status.{Status}
use Rattle.bench_top.specs.declared.status.Status.TheVariants.{Unread}
use Rattle.bench_top.specs.Deed.{IsFault}

pub answers-as : (result is asked : Status) → is ≡ asked → IsFault result ⊎ (result ≡ is) → IsFault result ⊎ (result ≡ asked)
answers-as result is asked same (inl fault) = inl fault
answers-as result is asked same (inr e) = inr (e ∙ same)

pub writes-as : {S : Type 0} (sink : Ghosts S) (old new : S) (result : Status) (is asked : List (List ℕ)) → is ≡ asked
    → IsFault result ⊎ WritesAll sink old new is → IsFault result ⊎ WritesAll sink old new asked
writes-as sink old new result is asked same (inl fault) = inl fault
writes-as sink old new result is asked same (inr all) = inr (subst (WritesAll sink old new) same all)

pub unread_is : (file other : FileId) → Unread file ≡ Unread other → file ≡ other
unread_is file other e = cc
