-- Documents that tell the same are read alike.
use Rattle.std.proofs.Common.{◌≡◌, ℕ, ◌≤◌, true, nat_le, List, length, Some, refl, sym, ◌∙◌, arith, inl, inr, codes}
use Rattle.std.proofs.lemmas.Bool.Decides.{nat_tests}
use Rattle.toml.specs.Data.{Members}
use Rattle.document_specs.specs.Documents.{document}
use Rattle.unit_specs.specs.Description.{Terminal}
use Rattle.description_specs.specs.declared.field.Field.TheVariants as field
use Rattle.description_specs.specs.declared.variable.ClockVariable.{ClockVariable}
use Rattle.description_specs.specs.declared.variable.BinaryVariable.{BinaryVariable}
use Rattle.description_specs.specs.Variables.{refusal}
use Rattle.description_specs.specs.Clocks.{clock_of, clock_at, clocks_of}
use Rattle.description_specs.specs.Binaries.{binary_of, binary_at, binaries_of}
use Rattle.description_specs.specs.Terminals.{terminal_of, terminal_at, terminals_of}
use Rattle.description_specs.specs.Descriptions.{description_of, description_in, head_of, most_bytes}
use Rattle.description_laws.proofs.Rows.{bind_same, some_rows}
use Rattle.description_laws.specs.Keys.{AgreeAt, SameTable, SameRows, TellTheSame, head_keys, unit_keys, clock_keys, binary_keys, terminal_keys}

head_same : (t u : Members) → AgreeAt head_keys t u → SameTable unit_keys (codes "CoSimulation") t u → head_of t ≡ head_of u
unfolding head_of
head_same t u h (inl same) = rw (h.0, h.1.0, h.1.1.0, same) refl
head_same t u h (inr k) =
    rw (h.0, h.1.0, h.1.1.0, k.at_one, k.at_other, k.agree.is_one, k.agree.is_other, k.agree.agree.0, k.agree.agree.1.0) refl

clock_same : (before : List ClockVariable) (t u : Members) → AgreeAt clock_keys t u → clock_of before t ≡ clock_of before u
unfolding clock_at
clock_same before t u h = rw (h.0, h.1.0, h.1.1.0, h.1.1.1.0) refl

binary_same : (clocks : List ClockVariable) (before : List BinaryVariable) (t u : Members) → AgreeAt binary_keys t u
    → binary_of clocks before t ≡ binary_of clocks before u
unfolding binary_at
binary_same clocks before t u h = rw (h.0, h.1.0, h.1.1.0, h.1.1.1.0, h.1.1.1.1.0) refl

terminal_same : (binaries : List BinaryVariable) (before : List Terminal) (t u : Members) → AgreeAt terminal_keys t u
    → terminal_of binaries before t ≡ terminal_of binaries before u
unfolding terminal_at
terminal_same binaries before t u h = rw (h.0, h.1.0, h.1.1.0, h.1.1.1.0, h.1.1.1.1.0) refl

clocks_same : (t u : Members) → SameRows clock_keys (codes "Clock") t u → clocks_of t ≡ clocks_of u
unfolding clocks_of
clocks_same t u (inl same) = rw same refl
clocks_same t u (inr k) =
    rw (k.at_one, k.at_other) (some_rows clock_keys (refusal field.Clock 0) 0 64 clock_of clock_same k.one k.other k.agree)

binaries_same : (clocks : List ClockVariable) (t u : Members) → SameRows binary_keys (codes "Binary") t u
    → binaries_of clocks t ≡ binaries_of clocks u
unfolding binaries_of
binaries_same clocks t u (inl same) = rw same refl
binaries_same clocks t u (inr k) =
    rw (k.at_one, k.at_other)
    (some_rows binary_keys (refusal field.Binary 0) 0 64 (binary_of clocks) (binary_same clocks) k.one k.other k.agree)

terminals_same : (binaries : List BinaryVariable) (t u : Members) → SameRows terminal_keys (codes "Terminal") t u
    → terminals_of binaries t ≡ terminals_of binaries u
unfolding terminals_of
terminals_same binaries t u (inl same) = rw same refl
terminals_same binaries t u (inr k) =
    rw (k.at_one, k.at_other)
    (some_rows terminal_keys (refusal field.Terminal 0) 1 4 (terminal_of binaries) (terminal_same binaries) k.one k.other k.agree)

document_same : (t u : Members) → TellTheSame t u → description_in t ≡ description_in u
unfolding description_in
document_same t u h =
    rw (head_same t u h.head h.unit)
    (bind_same (head_of u) _ _ (λ name. rw (clocks_same t u h.clocks)
    (bind_same (clocks_of u) _ _ (λ clocks. rw (binaries_same clocks t u h.binaries)
    (bind_same (binaries_of clocks u) _ _ (λ binaries. rw (terminals_same binaries t u h.terminals) refl))))))

fits : (m n : ℕ) → m ≤ n → nat_le m n ≡ true
fits m n h = grind (arith, nat_tests)

in_document : (bytes : List ℕ) (t : Members) → length bytes ≤ most_bytes → document bytes ≡ Some t → description_of bytes ≡ description_in t
unfolding description_of
in_document bytes t h found = rw (fits (length bytes) most_bytes h, found) refl

pub told_the_same : (one other : List ℕ) (t u : Members) → length one ≤ most_bytes → length other ≤ most_bytes
    → document one ≡ Some t → document other ≡ Some u → TellTheSame t u → description_of one ≡ description_of other
told_the_same one other t u short shorter is_one is_other same =
    in_document one t short is_one ∙ (document_same t u same ∙ sym (in_document other u shorter is_other))
