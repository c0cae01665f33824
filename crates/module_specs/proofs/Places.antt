-- Texts at places, and the items that they spell.
use Rattle.std.proofs.Common.{not, eqb, ◌≡◌, ℕ, ◌+◌, ◌-◌, ◌<◌, ◌≤◌, ℤ, Bool, true, false, cond, List, [], ◌∷◌, ◌++◌, length, get_or, drop, Result, Ok, Err, refl, sym, ap, subst, ◌∙◌, arith, append_assoc, length-append}
use Rattle.std.specs.Prelude.{nat_lt}
use Rattle.std.proofs.lemmas.Bool.{lt-ltb, ltb-true, eqb-true}
use Rattle.std.proofs.lemmas.List.{drop_at, drop-drop, drop_more, length-drop}
use Rattle.leb_bytes.specs.declared.error.LebError.{LebError}
use Rattle.leb_bytes.specs.declared.error.LebError.TheVariants as leb
use Rattle.leb_bytes.specs.Spelling.{Begins, SpellsUnsigned, SpellsSigned, LastUnsigned, LastSigned, join_unsigned, join_signed}
use Rattle.leb_bytes.specs.Reading.{unsigned_at, signed_at, last_unsigned, last_signed}
use Rattle.leb_bytes.proofs.Spelled.{IsBytes, front, read_again}
use Rattle.leb_bytes.proofs.Places.{IsBytes-drop}
use Rattle.leb_bytes.proofs.LastBytes.{unsigned_reads, signed_reads}
use Rattle.module_specs.specs.declared.fault.Fault.{Fault}
use Rattle.module_specs.specs.declared.fault.Fault.TheVariants.{Short, Opcode}
use Rattle.module_specs.specs.Reading.{◌>>=◌, byte_at, placed, u32_at, s32_at, s64_at, zero_at, refuse_if}
use Rattle.module_specs.specs.Spelling.{Here}

-- the value of a step that did not fail
pub bind_ok : {A B : Type 0} (r : Result A Fault) (f : A → Result B Fault) (y : B) → (r >>= f) ≡ Ok y → (x : A) × (r ≡ Ok x) × (f x ≡ Ok y)
bind_ok (Ok x) f y e = (x, refl, e)
bind_ok (Err d) f y e = absurd cc

abbrev pub done : {A : Type 0} → A → Result A Fault
done x = Ok x

pub ok_is : {A : Type 0} (x y : A) → done x ≡ done y → x ≡ y
ok_is x y e = cc

-- a test that let reading go on
pub not_refused : {A : Type 0} (t : Bool) (e : Fault) (f : Unit {0} → Result A Fault) (y : A) → refuse_if t e >>= f ≡ Ok y
    → (t ≡ false) × (f tt ≡ Ok y)
not_refused true e f y h = absurd cc
not_refused false e f y h = (refl, h)

pub goes_past : {A : Type 0} (t : Bool) (e : Fault) (f : Unit {0} → Result A Fault) → t ≡ false → refuse_if t e >>= f ≡ f tt
goes_past t e f is = ap (λ t. refuse_if t e >>= f) is

pub not_not : (t : Bool) → not t ≡ false → t ≡ true
not_not true e = refl
not_not false e = absurd cc

-- ---- texts

module _ (b : List ℕ) where
  pub nothing_here : (at : ℕ) → at ≤ length b → Here b at [] at
  nothing_here at le = record { whole = refl; size = omega arith; within = le }

  pub here_second : (at next : ℕ) (s t : List ℕ) → Here b at (s ++ t) next → Here b (at + length s) t next
  here_second at next s t h =
      let regrouped : drop at b ≡ s ++ (t ++ drop next b) = h.whole ∙ append_assoc s t (drop next b) in
      record {
        whole = sym (drop-drop (length s) at b) ∙ ap (drop (length s)) regrouped ∙ drop_at s (t ++ drop next b) (length s) refl;
        size = omega (arith, h.size, length-append s t);
        within = h.within;
      }

  pub here_first : (at next : ℕ) (s t : List ℕ) → Here b at (s ++ t) next → Here b at s (at + length s)
  here_first at next s t h =
      let rest = here_second at next s t h in
      record {
        whole = h.whole ∙ append_assoc s t (drop next b) ∙ ap (λ l. s ++ l) (sym rest.whole);
        size = refl;
        within = omega (arith, h.size, h.within, length-append s t);
      }

  pub here_join : (at mid next : ℕ) (s t : List ℕ) → Here b at s mid → Here b mid t next → Here b at (s ++ t) next
  here_join at mid next s t x y = record {
    whole = x.whole ∙ ap (λ l. s ++ l) y.whole ∙ sym (append_assoc s t (drop next b));
    size = omega (arith, x.size, y.size, length-append s t);
    within = y.within;
  }

  pub same_text : (at next : ℕ) (s t : List ℕ) → s ≡ t → Here b at s next → Here b at t next
  same_text at next s t e h = subst (λ l. Here b at l next) e h

  -- ---- bytes

  drop_step : (at : ℕ) (x : ℕ) (l : List ℕ) → at < length b → drop at b ≡ x ∷ l → (get_or b at 0 ≡ x) × (drop (at + 1) b ≡ l)
  drop_step at x l lt e = let more = drop_more b at 0 lt in let both : get_or b at 0 ∷ drop (at + 1) b ≡ x ∷ l = sym more ∙ e in (cc, cc)

  pub byte_again : (at next x : ℕ) (t : List ℕ) → Here b at (x ∷ t) next → byte_at b at ≡ Ok (x, at + 1)
  unfolding byte_at
  byte_again at next x t h =
      let lt : at < length b = omega (arith, h.size, h.within) in
      let s = drop_step at x (t ++ drop next b) lt h.whole in
      rw (lt-ltb at (length b) lt) (ap (λ x. Ok (x, at + 1)) s.0)

  pub byte_rest : (at next x : ℕ) (t : List ℕ) → Here b at (x ∷ t) next → Here b (at + 1) t next
  byte_rest at next x t h = here_second at next (x ∷ []) t h

  byte_ok : (t : Bool) (x next : ℕ) (at : ℕ) → (let p : ℕ × ℕ = (get_or b at 0, at + 1) in cond t (done p) (Err (Short (length b))) ≡ Ok
      (x, next)) → (t ≡ true) × (get_or b at 0 ≡ x) × (next ≡ at + 1)
  byte_ok true x next at e = (
    refl,
    ap (λ (p : ℕ × ℕ). p.0) (ok_is (get_or b at 0, at + 1) (x, next) e),
    sym
        (ap (λ (p : ℕ × ℕ). p.1) (ok_is (get_or b at 0, at + 1) (x, next) e)),
  )
  byte_ok false x next at e = absurd cc

  pub byte_here : (at next x : ℕ) → byte_at b at ≡ Ok (x, next) → Here b at (x ∷ []) next
  unfolding byte_at
  byte_here at next x e =
      let o = byte_ok (nat_lt at (length b)) x next at e in
      let lt : at < length b = ltb-true at (length b) o.0 in
      record {
        whole = drop_more b at 0 lt ∙ ap (λ x. x ∷ drop (at + 1) b) o.1 ∙ ap (λ n. x ∷ drop n b) (sym o.2);
        size = o.2;
        within = omega (arith, o.2);
      }

  -- ---- numbers

  rest_place : (at : ℕ) (text rest : List ℕ) → at ≤ length b → drop at b ≡ text ++ rest → Here b at text (length b - length rest)
  rest_place at text rest le e =
      let sizes : length b - at ≡ length text + length rest = sym (length-drop at b) ∙ ap length e ∙ length-append text rest in
      let next : length b - length rest ≡ at + length text = omega arith in
      let is_rest : drop (length b - length rest) b ≡ rest = ap (λ n. drop n b) next ∙ sym (drop-drop (length text) at b)
      ∙ ap (drop (length text)) e ∙ drop_at text rest (length text) refl in
      record { whole = e ∙ ap (λ l. text ++ l) (sym is_rest); size = next; within = omega arith }

  placed_again : {A : Type 0} (at next : ℕ) (r : Result (A × List ℕ) LebError) (n : A) → next ≤ length b → r ≡ Ok (n, drop next b)
      → placed b at r ≡ Ok (n, next)
  placed_again at next r n le e =
      let back : length b - length (drop next b) ≡ next = omega (arith, length-drop next b) in
      ap (placed b at) e ∙ ap (λ k. Ok (n, k)) back

  placed_here : {A : Type 0} (Spelled : List ℕ → A → Type 0) (at next : ℕ) (r : Result (A × List ℕ) LebError) (n : A) → at ≤ length b
      → ((p : A × List ℕ) → r ≡ Ok p → Begins Spelled (drop at b) p.1 p.0) → placed b at r ≡ Ok (n, next)
      → (text : List ℕ) × Here b at text next × Spelled text n
  placed_here Spelled at next (Err leb.Short) n le f e = absurd cc
  placed_here Spelled at next (Err leb.Long) n le f e = absurd cc
  placed_here Spelled at next (Err leb.Bits) n le f e = absurd cc
  placed_here {A} Spelled at next (Ok p) n le f e =
      let same : (p.0, length b - length p.1) ≡ (n, next) = ok_is (p.0, length b - length p.1) (n, next) e in
      let g = f p refl in
      let h = rest_place at g.text p.1 le g.whole in
      (g.text, subst (Here b at g.text) (ap (λ (q : A × ℕ). q.1) same) h, subst (Spelled g.text) (ap (λ (q : A × ℕ). q.0) same) g.spelled)

  pub u32_again : (at next n : ℕ) (text : List ℕ) → SpellsUnsigned 32 text n → Here b at text next → u32_at b at ≡ Ok (n, next)
  unfolding u32_at
  u32_again at next n text s h =
      placed_again at next (unsigned_at 32 (drop at b)) n h.within
      (ap (unsigned_at 32) h.whole ∙ read_again LastUnsigned join_unsigned last_unsigned unsigned_reads 32 text (drop next b) n s)

  pub s32_again : (at next : ℕ) (z : ℤ) (text : List ℕ) → SpellsSigned 32 text z → Here b at text next → s32_at b at ≡ Ok (z, next)
  unfolding s32_at
  s32_again at next z text s h =
      placed_again at next (signed_at 32 (drop at b)) z h.within
      (ap (signed_at 32) h.whole ∙ read_again LastSigned join_signed last_signed signed_reads 32 text (drop next b) z s)

  pub s64_again : (at next : ℕ) (z : ℤ) (text : List ℕ) → SpellsSigned 64 text z → Here b at text next → s64_at b at ≡ Ok (z, next)
  unfolding s64_at
  s64_again at next z text s h =
      placed_again at next (signed_at 64 (drop at b)) z h.within
      (ap (signed_at 64) h.whole ∙ read_again LastSigned join_signed last_signed signed_reads 64 text (drop next b) z s)

  pub zero_again : (at next : ℕ) (text : List ℕ) → text ≡ 0 ∷ [] → Here b at text next → zero_at b at ≡ Ok next
  unfolding zero_at
  zero_again at next text s h =
      let k = same_text at next text (0 ∷ []) s h in
      let n : at + 1 ≡ next = omega (arith, k.size) in
      ap (λ r. r >>= λ byte. refuse_if (not (eqb byte.0 0)) (Opcode at byte.0) >>= λ fine. Ok byte.1) (byte_again at next 0 [] k)
      ∙ ap (λ n. Ok n) n

  zero_ok : (t : Bool) (e : Fault) (n next : ℕ) → refuse_if (not t) e >>= (λ fine. Ok n) ≡ Ok next → (t ≡ true) × (n ≡ next)
  zero_ok true e n next h = (refl, ok_is n next h)
  zero_ok false e n next h = absurd cc

  pub zero_here : (at next : ℕ) → zero_at b at ≡ Ok next → Here b at (0 ∷ []) next
  unfolding zero_at
  zero_here at next e =
      let x = bind_ok (byte_at b at) (λ byte. refuse_if (not (eqb byte.0 0)) (Opcode at byte.0) >>= λ fine. Ok byte.1) next e in
      let z = zero_ok (eqb x.0.0 0) (Opcode at x.0.0) x.0.1 next x.2 in
      subst (Here b at (0 ∷ [])) z.1 (subst (λ (n : ℕ). Here b at (n ∷ []) x.0.1) (eqb-true x.0.0 0 z.0) (byte_here at x.0.1 x.0.0 x.1))

  module _ (fits : IsBytes b) where
    pub u32_here : (at next n : ℕ) → at ≤ length b → u32_at b at ≡ Ok (n, next)
        → (text : List ℕ) × Here b at text next × SpellsUnsigned 32 text n
    unfolding u32_at
    u32_here at next n le e =
        placed_here (SpellsUnsigned 32) at next (unsigned_at 32 (drop at b)) n le
        (λ p e. front LastUnsigned join_unsigned last_unsigned unsigned_reads 32 (drop at b) p (IsBytes-drop at b fits) e) e

    pub s32_here : (at next : ℕ) (z : ℤ) → at ≤ length b → s32_at b at ≡ Ok (z, next)
        → (text : List ℕ) × Here b at text next × SpellsSigned 32 text z
    unfolding s32_at
    s32_here at next z le e =
        placed_here (SpellsSigned 32) at next (signed_at 32 (drop at b)) z le
        (λ p e. front LastSigned join_signed last_signed signed_reads 32 (drop at b) p (IsBytes-drop at b fits) e) e

    pub s64_here : (at next : ℕ) (z : ℤ) → at ≤ length b → s64_at b at ≡ Ok (z, next)
        → (text : List ℕ) × Here b at text next × SpellsSigned 64 text z
    unfolding s64_at
    s64_here at next z le e =
        placed_here (SpellsSigned 64) at next (signed_at 64 (drop at b)) z le
        (λ p e. front LastSigned join_signed last_signed signed_reads 64 (drop at b) p (IsBytes-drop at b fits) e) e
