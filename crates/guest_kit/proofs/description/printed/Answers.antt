use Rattle.std.proofs.Common.{ℕ, Vec, Global, subst, sym}
use Rattle.std.specs.Prelude.{IsUtf8}
use Rattle.std.proofs.lemmas.Str.{IsUtf8-had}
use Rattle.guest_kit.proofs.description.printed.Goals as goal

pub returns-in-Ok-clause-utf8 : goal.returns-in-Ok-clause-utf8
returns-in-Ok-clause-utf8 c =
    subst (λ (v : Vec ℕ Global). IsUtf8 v.items) (sym c.into_bytes.ensures.value) (IsUtf8-had _ c.in-Ok.text.ok)
