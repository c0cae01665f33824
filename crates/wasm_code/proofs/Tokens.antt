-- Tokens: what is spelled is read, and what is read is spelled.
use Rattle.std.proofs.Common.{◌≡◌, ℕ, ◌+◌, ◌≤◌, Bool, true, false, cond, List, [], ◌∷◌, ◌++◌, length, Result, Ok, Err, refl, sym, ap, subst, ◌∙◌, arith, nat_lt}
use Rattle.std.proofs.lemmas.Bool.{leb-true, and_parts}
use Rattle.leb_bytes.proofs.Spelled.{IsBytes}
use Rattle.wasm_types.specs.declared.instr.ValType.TheVariants.{I32, I64}
use Rattle.wasm_types.specs.declared.instr.Instr.{Instr}
use Rattle.wasm_types.specs.declared.instr.Instr.TheVariants as instr
use Rattle.module_specs.specs.declared.fault.Fault.{Fault}
use Rattle.module_specs.specs.declared.opcodes.Kind.{Kind}
use Rattle.module_specs.specs.declared.opcodes.Kind.TheVariants as kind
use Rattle.module_specs.specs.declared.opcodes.Group.{Group}
use Rattle.module_specs.specs.declared.opcodes.Group.TheVariants as group
use Rattle.module_specs.specs.declared.token.Token.{Token}
use Rattle.module_specs.specs.declared.token.Token.TheVariants.{Plain, Opens, Else, End}
use Rattle.module_specs.specs.Opcodes.{Family, control_table, data_table, numeric_table, is_of, look_up, group_of, simple_instr, indexed_instr, kind_byte}
use Rattle.module_specs.specs.Spelling.{Here, SpellsU32, SpellsVector}
use Rattle.module_specs.specs.CodeSpelling.{SpellsImmediates, SpellsInstr}
use Rattle.module_specs.specs.Reading.{Read, ◌>>=◌, Gives, byte_at, u32_at, s32_at, s64_at, zero_at, vector_at}
use Rattle.module_specs.specs.CodeReading.{immediates_at, token_at}
use Rattle.module_specs.proofs.Places.{bind_ok, ok_is, done, nothing_here, here_first, here_second, here_join, same_text, byte_again, byte_rest, byte_here, u32_again, s32_again, u32_here, s32_here, s64_again, s64_here, zero_again, zero_here}
use Rattle.module_specs.proofs.Loops.{fails_of}
use Rattle.module_specs.proofs.Readers.{Tells, vector_tells, u32_tells}

pub gives_same : {A : Type 0} (r read : Result A Fault) → read ≡ r → Gives (λ x. x) r read
gives_same (Ok x) read h = h
gives_same (Err e) read h = fails_of e read h

-- what follows an opcode of this group is the token
pub gives_token : (b : List ℕ) (at op next : ℕ) (g : Group) (r : Read Token) → byte_at b at ≡ Ok (op, next) → group_of op ≡ g
    → r ≡ immediates_at b at op next g → Gives (λ x. x) r (token_at b at)
unfolding token_at
gives_token b at op next g r byte is h =
    gives_same r (token_at b at)
    (ap (λ r. r >>= λ op. immediates_at b at op.0 op.1 (group_of op.0)) byte ∙ ap (immediates_at b at op next) is ∙ sym h)

pub labels_tell : Tells (SpellsVector SpellsU32) (vector_at u32_at)
labels_tell = vector_tells SpellsU32 u32_at u32_tells

-- ---- groups with one opcode

abbrev IsAt : ℕ → Group → Type 0
IsAt op (group.Opens k) = op ≡ kind_byte k
IsAt op group.Else = op ≡ 0x05
IsAt op group.End = op ≡ 0x0B
IsAt op other = Unit {0}

record OnlyAt (op : ℕ) (g : Group) : Type 0 where
  pub is : IsAt op g

-- what opens or closes a list has one opcode, and stands in the table with it alone
abbrev AloneAs : ℕ → ℕ → Group → Type 0
AloneAs first last (group.Opens k) = (first ≡ kind_byte k) × (last ≡ kind_byte k)
AloneAs first last group.Else = (first ≡ 0x05) × (last ≡ 0x05)
AloneAs first last group.End = (first ≡ 0x0B) × (last ≡ 0x0B)
AloneAs first last other = Unit {0}

abbrev AllAlone : List Family → Type 0
AllAlone [] = Unit {0}
AllAlone (f ∷ fs) = AloneAs f.first f.last f.row.group × AllAlone fs

only_as : (op first last : ℕ) (g : Group) → first ≤ op → op ≤ last → AloneAs first last g → OnlyAt op g
only_as op first last (group.Opens k) low high a = record { is = omega (arith, a.0, a.1) }
only_as op first last group.Else low high a = record { is = omega (arith, a.0, a.1) }
only_as op first last group.End low high a = record { is = omega (arith, a.0, a.1) }
only_as op first last other low high a = record { is = tt }

only_in : (op : ℕ) (fs : List Family) → AllAlone fs → OnlyAt op (look_up op fs).group
only_in op [] a = record { is = tt }
only_in op (f ∷ fs) a = by_test (is_of op f) (λ e. e) (only_in op fs a.1)
  where
    by_test : (t : Bool) → (t ≡ true → is_of op f ≡ true) → OnlyAt op (look_up op fs).group → OnlyAt op (cond t f.row (look_up op fs)).group
    by_test true is others =
        let both = and_parts _ _ (is refl) in
        only_as op f.first f.last f.row.group (leb-true _ _ both.0) (leb-true _ _ both.1) a.0
    by_test false is others = others

control_alone : AllAlone control_table
control_alone = (
  tt,
  (
    tt,
    (
      (refl, refl),
      (
        (refl, refl),
        (
          (refl, refl),
          (
            (refl, refl),
            ((refl, refl), (tt, (tt, (tt, (tt, (tt, (tt, (tt, (tt, tt))))))))),
          ),
        ),
      ),
    ),
  ),
)

data_alone : AllAlone data_table
data_alone = (
  tt,
  (
    tt,
    (
      tt,
      (
        tt,
        (
          tt,
          (
            tt,
            (
              tt,
              (
                tt,
                (
                  tt,
                  (
                    tt,
                    (
                      tt,
                      (
                        tt,
                        (
                          tt,
                          (tt, (tt, (tt, (tt, (tt, (tt, (tt, (tt, (tt, (tt, tt)))))))))),
                        ),
                      ),
                    ),
                  ),
                ),
              ),
            ),
          ),
        ),
      ),
    ),
  ),
)

numeric_alone : AllAlone numeric_table
numeric_alone = (tt, (tt, (tt, (tt, (tt, (tt, (tt, (tt, (tt, (tt, (tt, (tt, (tt, (tt, tt))))))))))))))

only_at : (op : ℕ) → OnlyAt op (group_of op)
only_at op = by_tests (nat_lt op 0x20) (nat_lt op 0x45)
  where
    by_tests : (t u : Bool) → OnlyAt op (cond t (look_up op control_table) (cond u (look_up op data_table)
        (look_up op numeric_table))).group
    by_tests true u = only_in op control_table control_alone
    by_tests false true = only_in op data_table data_alone
    by_tests false false = only_in op numeric_table numeric_alone

-- ---- reading again

module _ (b : List ℕ) where
  rest_again : (at op p next : ℕ) (r : Group) (i : Instr) (text : List ℕ) → p ≤ length b → SpellsImmediates op r i text → Here b p text next
      → immediates_at b at op p r ≡ Ok (Plain i, next)
  rest_again at op p next (group.Bare what) i text le s h =
      let n : p ≡ next = sym (omega (arith, h.size, ap length s.0)) in
      ap (λ i. Ok (Plain i, p)) (sym s.1) ∙ ap (λ k. Ok (Plain i, k)) n
  rest_again at op p next (group.Index what) i text le s h =
      ap (λ r. r >>= λ n. Ok (Plain (indexed_instr op what n.0), n.1)) (u32_again b p next s.0 text s.1 h)
      ∙ ap (λ i. Ok (Plain i, next)) (sym s.2)
  rest_again at op p next (group.Access bytes) i text le s h =
      let t = s.2 in
      let both = same_text b p next text (t.0 ++ t.1) t.2 h in
      ap (λ r. r >>= λ a. u32_at b a.1 >>= λ o. Ok (Plain (instr.Access op a.0 o.0), o.1))
      (u32_again b p (p + length t.0) s.0 t.0 t.3 (here_first b p next t.0 t.1 both))
      ∙ ap (λ r. r >>= λ o. Ok (Plain (instr.Access op s.0 o.0), o.1))
      (u32_again b (p + length t.0) next s.1 t.1 t.4 (here_second b p next t.0 t.1 both))
      ∙ ap (λ i. Ok (Plain i, next)) (sym s.3)
  rest_again at op p next (group.Constant I32) i text le s h =
      ap (λ r. r >>= λ z. Ok (Plain (instr.I32Const z.0), z.1)) (s32_again b p next s.0 text s.1 h) ∙ ap (λ i. Ok (Plain i, next)) (sym s.2)
  rest_again at op p next (group.Constant I64) i text le s h =
      ap (λ r. r >>= λ z. Ok (Plain (instr.I64Const z.0), z.1)) (s64_again b p next s.0 text s.1 h) ∙ ap (λ i. Ok (Plain i, next)) (sym s.2)
  rest_again at op p next (group.Zero what) i text le s h =
      ap (λ r. r >>= λ n. Ok (Plain (simple_instr op what), n)) (zero_again b p next text s.0 h) ∙ ap (λ i. Ok (Plain i, next)) (sym s.1)
  rest_again at op p next group.Indirect i text le s h =
      let t = s.1 in
      let both = same_text b p next text (t.0 ++ t.1) t.2 h in
      ap (λ r. r >>= λ n. zero_at b n.1 >>= λ m. Ok (Plain (instr.CallIndirect n.0), m))
      (u32_again b p (p + length t.0) s.0 t.0 t.3 (here_first b p next t.0 t.1 both))
      ∙ ap (λ r. r >>= λ m. Ok (Plain (instr.CallIndirect s.0), m))
      (zero_again b (p + length t.0) next t.1 t.4 (here_second b p next t.0 t.1 both))
      ∙ ap (λ i. Ok (Plain i, next)) (sym s.2)
  rest_again at op p next group.Table i text le s h =
      let t = s.2 in
      let both = same_text b p next text (t.0 ++ t.1) t.2 h in
      ap (λ r. r >>= λ ls. u32_at b ls.1 >>= λ d. Ok (Plain (instr.BrTable ls.0 d.0), d.1))
      (labels_tell.again b p (p + length t.0) s.0 t.0 t.3 (here_first b p next t.0 t.1 both))
      ∙ ap (λ r. r >>= λ d. Ok (Plain (instr.BrTable s.0 d.0), d.1))
      (u32_again b (p + length t.0) next s.1 t.1 t.4 (here_second b p next t.0 t.1 both))
      ∙ ap (λ i. Ok (Plain i, next)) (sym s.3)
  rest_again at op p next (group.Opens k) i text le s h = absurd s
  rest_again at op p next group.Else i text le s h = absurd s
  rest_again at op p next group.End i text le s h = absurd s
  rest_again at op p next group.Float i text le s h = absurd s
  rest_again at op p next group.Unknown i text le s h = absurd s

  token_first : (at next op : ℕ) (text : List ℕ) → Here b at (op ∷ text) next → token_at b at ≡ immediates_at b at op (at + 1) (group_of op)
  unfolding token_at
  token_first at next op text h = ap (λ r. r >>= λ op. immediates_at b at op.0 op.1 (group_of op.0)) (byte_again b at next op text h)

  pub instr_again : (at next : ℕ) (i : Instr) (text : List ℕ) → SpellsInstr i text → Here b at text next
      → token_at b at ≡ Ok (Plain i, next)
  instr_again at next i [] s h = absurd s
  instr_again at next i (op ∷ text) s h =
      token_first at next op text h
      ∙ rest_again at op (at + 1) next (group_of op) i text (omega (arith, h.size, h.within)) s (byte_rest b at next op text h)

  pub opens_again : (at next : ℕ) (k : Kind) (text : List ℕ) → Here b at (kind_byte k ∷ text) next → token_at b at ≡ Ok (Opens k, at + 1)
  opens_again at next kind.Block text h = token_first at next 0x02 text h
  opens_again at next kind.Loop text h = token_first at next 0x03 text h
  opens_again at next kind.If text h = token_first at next 0x04 text h

  pub else_again : (at next : ℕ) (text : List ℕ) → Here b at (0x05 ∷ text) next → token_at b at ≡ Ok (Else, at + 1)
  else_again at next text h = token_first at next 0x05 text h

  pub end_again : (at next : ℕ) (text : List ℕ) → Here b at (0x0B ∷ text) next → token_at b at ≡ Ok (End, at + 1)
  end_again at next text h = token_first at next 0x0B text h

module _ (b : List ℕ) where
  -- a token's text
  abbrev pub Spelled : ℕ → ℕ → Token → Type 0
  Spelled at next (Plain i) = (text : List ℕ) × Here b at text next × SpellsInstr i text
  Spelled at next (Opens k) = Here b at (kind_byte k ∷ []) next
  Spelled at next Else = Here b at (0x05 ∷ []) next
  Spelled at next End = Here b at (0x0B ∷ []) next

  -- what follows an opcode was spelled
  abbrev Behind : ℕ → ℕ → Group → ℕ → Token → Type 0
  Behind op p r next (Plain i) = (text : List ℕ) × Here b p text next × SpellsImmediates op r i text
  Behind op p r next (Opens k) = (r ≡ group.Opens k) × (next ≡ p)
  Behind op p r next Else = (r ≡ group.Else) × (next ≡ p)
  Behind op p r next End = (r ≡ group.End) × (next ≡ p)

  read_is : (op p next k : ℕ) (r : Group) (t u : Token) → (let x : Token × ℕ = (t, k) in let y : Token × ℕ = (u, next) in done x ≡ done y)
      → Behind op p r k t → Behind op p r next u
  read_is op p next k r t u e x = subst (λ (q : Token × ℕ). Behind op p r q.1 q.0) (ok_is (t, k) (u, next) e) x

  module _ (fits : IsBytes b) where
    behind : (at op p next : ℕ) (r : Group) (t : Token) → p ≤ length b → immediates_at b at op p r ≡ Ok (t, next) → Behind op p r next t
    behind at op p next (group.Opens k) t le e = read_is op p next p (group.Opens k) (Opens k) t e (refl, refl)
    behind at op p next group.Else t le e = read_is op p next p group.Else Else t e (refl, refl)
    behind at op p next group.End t le e = read_is op p next p group.End End t e (refl, refl)
    behind at op p next (group.Bare what) t le e = read_is op p next p (group.Bare what) (Plain (simple_instr op what)) t e
        ([], nothing_here b p le, (refl, refl))
    behind at op p next (group.Index what) t le e =
        let x = bind_ok (u32_at b p) (λ n. Ok (Plain (indexed_instr op what n.0), n.1)) (t, next) e in
        let h = u32_here b fits p x.0.1 x.0.0 le x.1 in
        read_is op p next x.0.1 (group.Index what) (Plain (indexed_instr op what x.0.0)) t x.2 (h.0, h.1, (x.0.0, h.2, refl))
    behind at op p next (group.Access bytes) t le e =
        let x = bind_ok (u32_at b p) (λ a. u32_at b a.1 >>= λ o. Ok (Plain (instr.Access op a.0 o.0), o.1)) (t, next) e in
        let y = bind_ok (u32_at b x.0.1) (λ o. Ok (Plain (instr.Access op x.0.0 o.0), o.1)) (t, next) x.2 in
        let h = u32_here b fits p x.0.1 x.0.0 le x.1 in
        let k = u32_here b fits x.0.1 y.0.1 y.0.0 h.1.within y.1 in
        read_is op p next y.0.1 (group.Access bytes) (Plain (instr.Access op x.0.0 y.0.0)) t y.2
        (h.0 ++ k.0, here_join b p x.0.1 y.0.1 h.0 k.0 h.1 k.1, (x.0.0, y.0.0, (h.0, k.0, refl, h.2, k.2), refl))
    behind at op p next (group.Constant I32) t le e =
        let x = bind_ok (s32_at b p) (λ z. Ok (Plain (instr.I32Const z.0), z.1)) (t, next) e in
        let h = s32_here b fits p x.0.1 x.0.0 le x.1 in
        read_is op p next x.0.1 (group.Constant I32) (Plain (instr.I32Const x.0.0)) t x.2 (h.0, h.1, (x.0.0, h.2, refl))
    behind at op p next (group.Constant I64) t le e =
        let x = bind_ok (s64_at b p) (λ z. Ok (Plain (instr.I64Const z.0), z.1)) (t, next) e in
        let h = s64_here b fits p x.0.1 x.0.0 le x.1 in
        read_is op p next x.0.1 (group.Constant I64) (Plain (instr.I64Const x.0.0)) t x.2 (h.0, h.1, (x.0.0, h.2, refl))
    behind at op p next (group.Zero what) t le e =
        let x = bind_ok (zero_at b p) (λ n. Ok (Plain (simple_instr op what), n)) (t, next) e in
        read_is op p next x.0 (group.Zero what) (Plain (simple_instr op what)) t x.2 (0 ∷ [], zero_here b p x.0 x.1, (refl, refl))
    behind at op p next group.Indirect t le e =
        let x = bind_ok (u32_at b p) (λ n. zero_at b n.1 >>= λ m. Ok (Plain (instr.CallIndirect n.0), m)) (t, next) e in
        let y = bind_ok (zero_at b x.0.1) (λ m. Ok (Plain (instr.CallIndirect x.0.0), m)) (t, next) x.2 in
        let h = u32_here b fits p x.0.1 x.0.0 le x.1 in
        let k = zero_here b x.0.1 y.0 y.1 in
        read_is op p next y.0 group.Indirect (Plain (instr.CallIndirect x.0.0)) t y.2
        (h.0 ++ 0 ∷ [], here_join b p x.0.1 y.0 h.0 (0 ∷ []) h.1 k, (x.0.0, (h.0, 0 ∷ [], refl, h.2, refl), refl))
    behind at op p next group.Table t le e =
        let x = bind_ok (vector_at u32_at b p) (λ ls. u32_at b ls.1 >>= λ d. Ok (Plain (instr.BrTable ls.0 d.0), d.1)) (t, next) e in
        let y = bind_ok (u32_at b x.0.1) (λ d. Ok (Plain (instr.BrTable x.0.0 d.0), d.1)) (t, next) x.2 in
        let h = labels_tell.here b fits p x.0.1 x.0.0 le x.1 in
        let k = u32_here b fits x.0.1 y.0.1 y.0.0 h.1.within y.1 in
        read_is op p next y.0.1 group.Table (Plain (instr.BrTable x.0.0 y.0.0)) t y.2
        (h.0 ++ k.0, here_join b p x.0.1 y.0.1 h.0 k.0 h.1 k.1, (x.0.0, y.0.0, (h.0, k.0, refl, h.2, k.2), refl))
    behind at op p next group.Float t le e = absurd cc
    behind at op p next group.Unknown t le e = absurd cc

    joined : (at op p next : ℕ) (t : Token) → Here b at (op ∷ []) p → OnlyAt op (group_of op) → Behind op p (group_of op) next t
        → Spelled at next t
    joined at op p next (Plain i) h only x = (op ∷ x.0, here_join b at p next (op ∷ []) x.0 h x.1, x.2)
    joined at op p next (Opens k) h only x = subst (Here b at (kind_byte k ∷ [])) (sym x.1)
        (subst (λ (n : ℕ). Here b at (n ∷ []) p) (subst (OnlyAt op) x.0 only).is h)
    joined at op p next Else h only x = subst (Here b at (0x05 ∷ [])) (sym x.1)
        (subst (λ (n : ℕ). Here b at (n ∷ []) p) (subst (OnlyAt op) x.0 only).is h)
    joined at op p next End h only x = subst (Here b at (0x0B ∷ [])) (sym x.1)
        (subst (λ (n : ℕ). Here b at (n ∷ []) p) (subst (OnlyAt op) x.0 only).is h)

    pub token_here : (at next : ℕ) (t : Token) → token_at b at ≡ Ok (t, next) → Spelled at next t
    unfolding token_at
    token_here at next t e =
        let x = bind_ok (byte_at b at) (λ op. immediates_at b at op.0 op.1 (group_of op.0)) (t, next) e in
        let h = byte_here b at x.0.1 x.0.0 x.1 in
        joined at x.0.0 x.0.1 next t h (only_at x.0.0) (behind at x.0.0 x.0.1 next (group_of x.0.0) t h.within x.2)
