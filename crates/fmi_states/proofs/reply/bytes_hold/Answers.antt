-- Each item of a slice of bytes is below 256, and so are the items of what is left behind its first one.
use Rattle.std.proofs.Common.{◌≡◌, ◌<◌, ℕ, suc, true, List, [], ◌∷◌, get_or, arith, refl}
use Rattle.std.specs.Prelude.{nat_lt}
use Rattle.std.proofs.lemmas.Bool.{and_from}
use Rattle.std.proofs.lemmas.Bool.Decides.{nat_tests}
use Rattle.fmi_states.specs.Reply.{are_bytes}
use Rattle.fmi_states.proofs.reply.bytes_hold.Goals as goal

bytes-each : (bs : List ℕ) → ((i : ℕ) → get_or bs i 0 < 256) → are_bytes bs ≡ true
bytes-each [] small = refl
bytes-each (b ∷ bs) small =
    let first : b < 256 = small 0 in
    and_from (nat_lt b 256) (are_bytes bs) (grind (arith, nat_tests, first)) (bytes-each bs (λ i. small (suc i)))

pub returns : goal.returns
returns c = bytes-each c.args.bytes.now (λ (i : ℕ). let h : get_or c.args.bytes.now i 0 < 256 = omega (arith, c.type_inv.bytes i) in h)
