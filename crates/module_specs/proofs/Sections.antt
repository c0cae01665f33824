-- Sections: what is spelled is read, and what is read is spelled. What is said of bodies alone is a premise.
use Rattle.std.proofs.Common.{◌≡◌, ℕ, zero, suc, ◌+◌, ◌<◌, ◌≤◌, Bool, true, false, not, eqb, cond, List, [], ◌∷◌, ◌++◌, length, drop, map, Option, Some, None, Ok, refl, sym, ap, subst, ◌∙◌, arith, inl, inr}
use Rattle.std.specs.Prelude.{nat_lt, ◌⊎◌}
use Rattle.std.proofs.lemmas.Bool.{ltb-false, leb-false, lt-ltb, le-ltb, lt-leb, eqb-true, eq-eqb}
use Rattle.std.proofs.lemmas.List.{append-nil, length-drop, length-append}
use Rattle.leb_bytes.proofs.Spelled.{IsBytes}
use Rattle.wasm_types.specs.Modules.{NestedFunc}
use Rattle.module_specs.specs.declared.fault.Fault.TheVariants as fault
use Rattle.module_specs.specs.declared.section.SectionKind.{SectionKind}
use Rattle.module_specs.specs.declared.section.SectionKind.TheVariants as kind
use Rattle.module_specs.specs.Spelling.{Here, SpellsU32, SpellsEach, SpellsVector, SpellsSized, SpellsName}
use Rattle.module_specs.specs.CodeSpelling.{SpellsBody}
use Rattle.module_specs.specs.ModuleSpelling.{SpellsFuncType, SpellsTable, SpellsMemory, SpellsGlobal, SpellsExport, SpellsElement, SpellsData, Section, Custom, Types, Imports, Funcs, Tables, Memories, Globals, Exports, Start, Elements, Codes, Datas, kind_of, id_byte, Before, after, SpellsSectionContent, Rises, SpellsSection, SpellsSections}
use Rattle.module_specs.specs.Reading.{Read, ◌>>=◌, refuse_if, mapped, byte_at, u32_at, vector_at, sized_at, name_at}
use Rattle.module_specs.specs.CodeReading.{body_at}
use Rattle.module_specs.specs.ModuleReading.{func_type_at, table_at, memory_at, global_at, export_at, element_at, data_at, imports_at, custom_at, bodies_at, codes_at, section_content_at, kind_of_id, known, falls, section_at, with_section, sections_at}
use Rattle.module_specs.proofs.Places.{bind_ok, done, ok_is, not_refused, goes_past, not_not, nothing_here, here_first, here_second, here_join, same_text, byte_again, byte_rest, byte_here}
use Rattle.module_specs.proofs.Readers.{Tells, Fills, u32_tells, vector_tells, sized_tells, mapped_ok, cons_read}
use Rattle.module_specs.proofs.ValueTypes.{chosen}
use Rattle.module_specs.proofs.Items.{step, name_tells, func_type_tells, memory_tells, table_tells}
use Rattle.module_specs.proofs.Segments.{global_tells, export_tells, element_tells, data_tells}

-- bodies are read as they are spelled
pub record BodiesTell : Type 0 where
  pub again : (b : List ℕ) (f : NestedFunc) (at next : ℕ) (text : List ℕ) → SpellsBody f text → Here b at text next → body_at f.ty b at ≡ Ok (f, next)
  pub here : (b : List ℕ) → IsBytes b → (ty at next : ℕ) (f : NestedFunc) → at ≤ length b → body_at ty b at ≡ Ok (f, next)
      → (text : List ℕ) × Here b at text next × (f.ty ≡ ty) × SpellsBody f text

-- ---- ids

known_id : (k : SectionKind) → kind_of_id (id_byte k) ≡ Some k
known_id kind.Custom = refl
known_id kind.Type = refl
known_id kind.Import = refl
known_id kind.Function = refl
known_id kind.Table = refl
known_id kind.Memory = refl
known_id kind.Global = refl
known_id kind.Export = refl
known_id kind.Start = refl
known_id kind.Element = refl
known_id kind.Code = refl
known_id kind.Data = refl

module _ (id : ℕ) (k : SectionKind) where
  abbrev some : SectionKind → Option SectionKind
  some j = Some j

  line : (j : SectionKind) (rest : Option SectionKind) → (rest ≡ Some k → id ≡ id_byte k) → cond (eqb id (id_byte j)) (Some j) rest ≡ Some k → id ≡ id_byte k
  line j rest more e =
      elim (chosen (eqb id (id_byte j)) (some j) rest (Some k) e) [
        | inl x ↦ eqb-true id (id_byte j) x.0 ∙ ap id_byte (some_is x.1)
        | inr y ↦ more y
      ]
    where
      some_is : Some j ≡ Some k → j ≡ k
      some_is e = cc

  id_of_known : kind_of_id id ≡ Some k → id ≡ id_byte k
  id_of_known =
      line kind.Custom _ (line kind.Type _ (line kind.Import _ (line kind.Function _ (line kind.Table _ (line kind.Memory _
      (line kind.Global _ (line kind.Export _ (line kind.Start _ (line kind.Element _ (line kind.Code _ (line kind.Data _ none)))))))))))
    where
      none : None ≡ Some k → id ≡ id_byte k
      none e = absurd cc

known_here : (at id : ℕ) (k : SectionKind) → known at (kind_of_id id) ≡ Ok k → id ≡ id_byte k
known_here at id k e = id_of_known id k (by_kind (kind_of_id id) e)
  where
    by_kind : (o : Option SectionKind) → known at o ≡ Ok k → o ≡ Some k
    by_kind (Some j) e = let same : j ≡ k = cc in ap (λ j. Some j) same
    by_kind None e = absurd cc

rises_again : (last : ℕ) (k : SectionKind) → Rises last k → falls last k ≡ false
rises_again last kind.Custom r = refl
rises_again last kind.Type r = lt-leb 1 last r
rises_again last kind.Import r = lt-leb 2 last r
rises_again last kind.Function r = lt-leb 3 last r
rises_again last kind.Table r = lt-leb 4 last r
rises_again last kind.Memory r = lt-leb 5 last r
rises_again last kind.Global r = lt-leb 6 last r
rises_again last kind.Export r = lt-leb 7 last r
rises_again last kind.Start r = lt-leb 8 last r
rises_again last kind.Element r = lt-leb 9 last r
rises_again last kind.Code r = lt-leb 10 last r
rises_again last kind.Data r = lt-leb 11 last r

rises_here : (last : ℕ) (k : SectionKind) → falls last k ≡ false → Rises last k
rises_here last kind.Custom e = tt
rises_here last kind.Type e = leb-false 1 last e
rises_here last kind.Import e = leb-false 2 last e
rises_here last kind.Function e = leb-false 3 last e
rises_here last kind.Table e = leb-false 4 last e
rises_here last kind.Memory e = leb-false 5 last e
rises_here last kind.Global e = leb-false 6 last e
rises_here last kind.Export e = leb-false 7 last e
rises_here last kind.Start e = leb-false 8 last e
rises_here last kind.Element e = leb-false 9 last e
rises_here last kind.Code e = leb-false 10 last e
rises_here last kind.Data e = leb-false 11 last e

-- ---- bodies

module _ (tell : BodiesTell) where
  bodies_again : (b : List ℕ) (funcs : List NestedFunc) (at next : ℕ) (text : List ℕ) → SpellsEach SpellsBody funcs text → Here b at text next
      → bodies_at (map (λ (f : NestedFunc). f.ty) funcs) b at ≡ Ok (funcs, next)
  unfolding bodies_at
  bodies_again b [] at next text s h =
      let n : at ≡ next = sym (omega (arith, h.size, ap length s)) in
      ap (λ (n : ℕ). Ok ([], n)) n
  bodies_again b (f ∷ funcs) at next text s h =
      let k = same_text b at next text (s.0 ++ s.1) s.2 h in
      let mid = at + length s.0 in
      ap (λ r. r >>= λ x. bodies_at (map (λ (f : NestedFunc). f.ty) funcs) b x.1 >>= cons_read x.0) (tell.again b f at mid s.0 s.3 (here_first b at next s.0 s.1 k))
      ∙ ap (λ r. r >>= cons_read f) (bodies_again b funcs mid next s.1 s.4 (here_second b at next s.0 s.1 k))

  abbrev BodiesHere : List ℕ → ℕ → List ℕ → ℕ → List NestedFunc → Type 0
  BodiesHere b at indices next funcs =
      (text : List ℕ) × Here b at text next × (map (λ (f : NestedFunc). f.ty) funcs ≡ indices) × (length funcs ≡ length indices) × SpellsEach SpellsBody funcs text

  bodies_here : (b : List ℕ) → IsBytes b → (indices : List ℕ) (at next : ℕ) (funcs : List NestedFunc) → at ≤ length b → bodies_at indices b at ≡ Ok (funcs, next) → BodiesHere b at indices next funcs
  unfolding bodies_at
  bodies_here b fits [] at next funcs le e =
      let made : List NestedFunc × ℕ = ([], at) in
      subst (λ (p : List NestedFunc × ℕ). BodiesHere b at [] p.1 p.0) (ok_is made (funcs, next) e) ([], nothing_here b at le, refl, refl, refl)
  bodies_here b fits (ty ∷ indices) at next funcs le e =
      let first = bind_ok (body_at ty b at) (λ x. bodies_at indices b x.1 >>= cons_read x.0) (funcs, next) e in
      let others = bind_ok (bodies_at indices b first.0.1) (cons_read first.0.0) (funcs, next) first.2 in
      let h1 = tell.here b fits ty at first.0.1 first.0.0 le first.1 in
      let h2 = bodies_here b fits indices first.0.1 others.0.1 others.0.0 h1.1.within others.1 in
      let made : List NestedFunc × ℕ = (first.0.0 ∷ others.0.0, others.0.1) in
      let types : first.0.0.ty ∷ map (λ (f : NestedFunc). f.ty) others.0.0 ≡ ty ∷ indices = ap (λ t. t ∷ map (λ (f : NestedFunc). f.ty) others.0.0) h1.2 ∙ ap (λ l. ty ∷ l) h2.2 in
      subst (λ (p : List NestedFunc × ℕ). BodiesHere b at (ty ∷ indices) p.1 p.0) (ok_is made (funcs, next) others.2)
      (h1.0 ++ h2.0, here_join b at first.0.1 others.0.1 h1.0 h2.0 h1.1 h2.1, types, ap suc h2.3, (h1.0, h2.0, refl, h1.3, h2.4))

  types_length : (funcs : List NestedFunc) → length (map (λ (f : NestedFunc). f.ty) funcs) ≡ length funcs
  types_length [] = refl
  types_length (f ∷ funcs) = ap suc (types_length funcs)

  module _ (place : ℕ) (indices : List ℕ) where
    abbrev SpellsCodes : List NestedFunc → List ℕ → Type 0
    SpellsCodes funcs text = (map (λ (f : NestedFunc). f.ty) funcs ≡ indices) × SpellsVector SpellsBody funcs text

    abbrev count_then : List ℕ → ℕ × ℕ → Read (List NestedFunc)
    count_then b count = refuse_if (not (eqb count.0 (length indices))) (fault.Count place) >>= λ fine. bodies_at indices b count.1

    codes_again : (b : List ℕ) (at next : ℕ) (funcs : List NestedFunc) (text : List ℕ) → SpellsCodes funcs text → Here b at text next → codes_at place indices b at ≡ Ok (funcs, next)
    unfolding codes_at
    codes_again b at next funcs text s h =
        let v = s.1 in
        let k = same_text b at next text (v.0 ++ v.1) v.2 h in
        let mid = at + length v.0 in
        let n : length funcs ≡ length indices = sym (types_length funcs) ∙ ap length s.0 in
        step SpellsU32 u32_at u32_tells b at mid (length funcs) v.0 (count_then b) v.3 (here_first b at next v.0 v.1 k)
        ∙ goes_past (not (eqb (length funcs) (length indices))) (fault.Count place) (λ fine. bodies_at indices b mid) (ap not (eq-eqb (length funcs) (length indices) n))
        ∙ ap (λ l. bodies_at l b mid) (sym s.0)
        ∙ bodies_again b funcs mid next v.1 v.4 (here_second b at next v.0 v.1 k)

    codes_here : (b : List ℕ) → IsBytes b → (at next : ℕ) (funcs : List NestedFunc) → at ≤ length b → codes_at place indices b at ≡ Ok (funcs, next)
        → (text : List ℕ) × Here b at text next × SpellsCodes funcs text
    unfolding codes_at
    codes_here b fits at next funcs le e =
        let count = bind_ok (u32_at b at) (count_then b) (funcs, next) e in
        let fine = not_refused (not (eqb count.0.0 (length indices))) (fault.Count place) (λ fine. bodies_at indices b count.0.1) (funcs, next) count.2 in
        let h1 = u32_tells.here b fits at count.0.1 count.0.0 le count.1 in
        let h2 = bodies_here b fits indices count.0.1 next funcs h1.1.within fine.1 in
        let n : count.0.0 ≡ length funcs = eqb-true count.0.0 (length indices) (not_not (eqb count.0.0 (length indices)) fine.0) ∙ sym h2.3 in
        (h1.0 ++ h2.0, here_join b at count.0.1 next h1.0 h2.0 h1.1 h2.1, (h2.2, (h1.0, h2.0, refl, subst (λ (n : ℕ). SpellsU32 n h1.0) n h1.2, h2.4)))

  -- ---- contents

  module _ (s : Before) (id : ℕ) where
    abbrev name_then : List ℕ → List ℕ × ℕ → Read Section
    name_then b name = Ok (Custom, length b)

    abbrev none_then : List ℕ → ℕ × ℕ → Read Section
    none_then b count = refuse_if (nat_lt 0 count.0) (fault.Import id) >>= λ fine. Ok (Imports, count.1)

    content_again : (b : List ℕ) (at : ℕ) (x : Section) (text : List ℕ) → SpellsSectionContent s x text → Here b at text (length b) → section_content_at s id (kind_of x) b at ≡ Ok (x, length b)
    unfolding custom_at imports_at
    content_again b at Custom text c h =
        let t = c.1 in
        let k = same_text b at (length b) text (t.0 ++ t.1) t.2 h in
        step SpellsName name_at name_tells b at (at + length t.0) c.0 t.0 (name_then b) t.3 (here_first b at (length b) t.0 t.1 k)
    content_again b at (Types types) text c h = ap (mapped Types) ((vector_tells SpellsFuncType func_type_at func_type_tells).again b at (length b) types text c h)
    content_again b at Imports text c h = step SpellsU32 u32_at u32_tells b at (length b) 0 text (none_then b) c h
    content_again b at (Funcs indices) text c h = ap (mapped Funcs) ((vector_tells SpellsU32 u32_at u32_tells).again b at (length b) indices text c h)
    content_again b at (Tables tables) text c h = ap (mapped Tables) ((vector_tells SpellsTable table_at table_tells).again b at (length b) tables text c h)
    content_again b at (Memories memories) text c h = ap (mapped Memories) ((vector_tells SpellsMemory memory_at memory_tells).again b at (length b) memories text c h)
    content_again b at (Globals globals) text c h = ap (mapped Globals) ((vector_tells SpellsGlobal global_at global_tells).again b at (length b) globals text c h)
    content_again b at (Exports exports) text c h = ap (mapped Exports) ((vector_tells SpellsExport export_at export_tells).again b at (length b) exports text c h)
    content_again b at (Start func) text c h = ap (mapped Start) (u32_tells.again b at (length b) func text c h)
    content_again b at (Elements elements) text c h = ap (mapped Elements) ((vector_tells SpellsElement element_at element_tells).again b at (length b) elements text c h)
    content_again b at (Codes funcs) text c h = ap (mapped Codes) (codes_again id s.indices b at (length b) funcs text c h)
    content_again b at (Datas datas) text c h = ap (mapped Datas) ((vector_tells SpellsData data_at data_tells).again b at (length b) datas text c h)

    -- the content of a section of this kind
    abbrev pub OfKind : SectionKind → Section → List ℕ → Type 0
    OfKind k x text = (kind_of x ≡ k) × SpellsSectionContent s x text

    abbrev Held : List ℕ → ℕ → ℕ → SectionKind → Section → Type 0
    Held b at next k x = (text : List ℕ) × Here b at text next × OfKind k x text

    whole_rest : (b : List ℕ) (at : ℕ) → at ≤ length b → Here b at (drop at b) (length b)
    whole_rest b at le = record { whole = sym (append-nil (drop at b)) ∙ ap (λ l. drop at b ++ l) (sym (nothing_left b)); size = omega (arith, length-drop at b); within = omega arith }
      where
        nothing_left : (l : List ℕ) → drop (length l) l ≡ []
        nothing_left [] = refl
        nothing_left (x ∷ l) = nothing_left l

    -- a vector that is what a section holds
    held : {A : Type 0} (S : A → List ℕ → Type 0) (read : List ℕ → ℕ → Read A) → Tells S read → (wrap : A → Section) (k : SectionKind) → ((x : A) (text : List ℕ) → S x text → OfKind k (wrap x) text)
        → (b : List ℕ) → IsBytes b → (at next : ℕ) (x : Section) → at ≤ length b → mapped wrap (read b at) ≡ Ok (x, next) → Held b at next k x
    held S read tells wrap k given b fits at next x le e =
        let m = mapped_ok wrap (read b at) x next e in
        let h = tells.here b fits at next m.0 le m.1 in
        subst (Held b at next k) (sym m.2) (h.0, h.1, given m.0 h.0 h.2)

    content_here : (k : SectionKind) (b : List ℕ) → IsBytes b → (at next : ℕ) (x : Section) → at ≤ length b → section_content_at s id k b at ≡ Ok (x, next) → Held b at next k x
    unfolding custom_at imports_at
    content_here kind.Custom b fits at next x le e =
        let name = bind_ok (name_at b at) (name_then b) (x, next) e in
        let h = name_tells.here b fits at name.0.1 name.0.0 le name.1 in
        let made : Section × ℕ = (Custom, length b) in
        let rest = whole_rest b name.0.1 h.1.within in
        let unread = drop name.0.1 b in
        subst (λ (p : Section × ℕ). Held b at p.1 kind.Custom p.0) (ok_is made (x, next) name.2)
        (h.0 ++ unread, here_join b at name.0.1 (length b) h.0 unread h.1 rest, (refl, (name.0.0, (h.0, unread, refl, h.2, tt))))
    content_here kind.Type b fits at next x le e = held (SpellsVector SpellsFuncType) (vector_at func_type_at) (vector_tells SpellsFuncType func_type_at func_type_tells) Types kind.Type (λ y text t. (refl, t)) b fits at next x le e
    content_here kind.Import b fits at next x le e =
        let count = bind_ok (u32_at b at) (none_then b) (x, next) e in
        let made : Section × ℕ = (Imports, count.0.1) in
        let fine = not_refused (nat_lt 0 count.0.0) (fault.Import id) (λ fine. Ok made) (x, next) count.2 in
        let h = u32_tells.here b fits at count.0.1 count.0.0 le count.1 in
        let none : count.0.0 ≡ 0 = let small : count.0.0 ≤ 0 = ltb-false 0 count.0.0 fine.0 in omega arith in
        subst (λ (p : Section × ℕ). Held b at p.1 kind.Import p.0) (ok_is made (x, next) fine.1)
        (h.0, h.1, (refl, subst (λ (n : ℕ). SpellsU32 n h.0) none h.2))
    content_here kind.Function b fits at next x le e = held (SpellsVector SpellsU32) (vector_at u32_at) (vector_tells SpellsU32 u32_at u32_tells) Funcs kind.Function (λ y text t. (refl, t)) b fits at next x le e
    content_here kind.Table b fits at next x le e = held (SpellsVector SpellsTable) (vector_at table_at) (vector_tells SpellsTable table_at table_tells) Tables kind.Table (λ y text t. (refl, t)) b fits at next x le e
    content_here kind.Memory b fits at next x le e = held (SpellsVector SpellsMemory) (vector_at memory_at) (vector_tells SpellsMemory memory_at memory_tells) Memories kind.Memory (λ y text t. (refl, t)) b fits at next x le e
    content_here kind.Global b fits at next x le e = held (SpellsVector SpellsGlobal) (vector_at global_at) (vector_tells SpellsGlobal global_at global_tells) Globals kind.Global (λ y text t. (refl, t)) b fits at next x le e
    content_here kind.Export b fits at next x le e = held (SpellsVector SpellsExport) (vector_at export_at) (vector_tells SpellsExport export_at export_tells) Exports kind.Export (λ y text t. (refl, t)) b fits at next x le e
    content_here kind.Start b fits at next x le e = held SpellsU32 u32_at u32_tells Start kind.Start (λ y text t. (refl, t)) b fits at next x le e
    content_here kind.Element b fits at next x le e = held (SpellsVector SpellsElement) (vector_at element_at) (vector_tells SpellsElement element_at element_tells) Elements kind.Element (λ y text t. (refl, t)) b fits at next x le e
    content_here kind.Code b fits at next x le e =
        let m = mapped_ok Codes (codes_at id s.indices b at) x next e in
        let h = codes_here id s.indices b fits at next m.0 le m.1 in
        subst (Held b at next kind.Code) (sym m.2) (h.0, h.1, (refl, h.2))
    content_here kind.Data b fits at next x le e = held (SpellsVector SpellsData) (vector_at data_at) (vector_tells SpellsData data_at data_tells) Datas kind.Data (λ y text t. (refl, t)) b fits at next x le e

    pub content_fills : (k : SectionKind) → Fills (OfKind k) (section_content_at s id k)
    content_fills k = record {
      again = λ b at x text c h. subst (λ k. section_content_at s id k b at ≡ Ok (x, length b)) c.0 (content_again b at x text c.1 h);
      here = λ b fits at next x le e. content_here k b fits at next x le e;
    }

  -- ---- sections

  sized : (s : Before) (at : ℕ) (k : SectionKind) → Tells (SpellsSized (OfKind s at k)) (sized_at (λ end. fault.Short end) (fault.Size at) (section_content_at s at k))
  sized s at k = sized_tells (OfKind s at k) (section_content_at s at k) (content_fills s at k) (λ end. fault.Short end) (fault.Size at)

  abbrev risen : Before → List ℕ → ℕ → ℕ → SectionKind → Read Section
  risen s b at next k = refuse_if (falls s.last k) (fault.Order at) >>= λ rising. sized_at (λ end. fault.Short end) (fault.Size at) (section_content_at s at k) b next

  abbrev id_then : Before → List ℕ → ℕ → ℕ × ℕ → Read Section
  id_then s b at id = known at (kind_of_id id.0) >>= risen s b at id.1

  pub section_again : (s : Before) (b : List ℕ) (at next : ℕ) (x : Section) (text : List ℕ) → SpellsSection s x text → Here b at text next → section_at s b at ≡ Ok (x, next)
  unfolding section_at
  section_again s b at next x text t h =
      let k = kind_of x in
      let r = t.1 in
      let z = r.2 in
      let whole = same_text b at next text (id_byte k ∷ r.0) r.1 h in
      ap (λ r. r >>= id_then s b at) (byte_again b at next (id_byte k) r.0 whole)
      ∙ ap (λ o. known at o >>= risen s b at (at + 1)) (known_id k)
      ∙ goes_past (falls s.last k) (fault.Order at) (λ rising. sized_at (λ end. fault.Short end) (fault.Size at) (section_content_at s at k) b (at + 1)) (rises_again s.last k t.0)
      ∙ (sized s at k).again b (at + 1) next x r.0 (z.0, z.1, z.2, z.3, (refl, z.4)) (byte_rest b at next (id_byte k) r.0 whole)

  pub section_here : (s : Before) (b : List ℕ) → IsBytes b → (at next : ℕ) (x : Section) → section_at s b at ≡ Ok (x, next)
      → (text : List ℕ) × Here b at text next × (at < next) × SpellsSection s x text
  unfolding section_at
  section_here s b fits at next x e =
      let made : Section × ℕ = (x, next) in
      let byte = bind_ok (byte_at b at) (id_then s b at) made e in
      let k = bind_ok (known at (kind_of_id byte.0.0)) (risen s b at byte.0.1) made byte.2 in
      let rising = not_refused (falls s.last k.0) (fault.Order at) (λ rising. sized_at (λ end. fault.Short end) (fault.Size at) (section_content_at s at k.0) b byte.0.1) made k.2 in
      let h0 = byte_here b at byte.0.1 byte.0.0 byte.1 in
      let h1 = (sized s at k.0).here b fits byte.0.1 next x h0.within rising.1 in
      let z = h1.2 in
      let same : kind_of x ≡ k.0 = z.4.0 in
      let is_id : byte.0.0 ≡ id_byte (kind_of x) = known_here at byte.0.0 k.0 k.1 ∙ ap id_byte (sym same) in
      let rises = rises_here s.last (kind_of x) (ap (falls s.last) same ∙ rising.0) in (
        byte.0.0 ∷ h1.0,
        here_join b at byte.0.1 next (byte.0.0 ∷ []) h1.0 h0 h1.1,
        omega (arith, h0.size, h1.1.size),
        (rises, (h1.0, ap (λ i. i ∷ h1.0) is_id, (z.0, z.1, z.2, z.3, z.4.1))),
      )

  abbrev pub sections_then : ℕ → Before → List ℕ → Section × ℕ → Read (List Section)
  sections_then n s b x = sections_at n (after x.0 s) b x.1 >>= with_section x.0

  abbrev pub more_or_end : Bool → ℕ → Before → List ℕ → ℕ → Read (List Section)
  more_or_end t n s b at = cond t (section_at s b at >>= sections_then n s b) (Ok (none at))
    where
      none : ℕ → List Section × ℕ
      none at = ([], at)

  pub sections_again : (n : ℕ) (s : Before) (b : List ℕ) (xs : List Section) (at : ℕ) (text : List ℕ) → length b ≤ n + at → SpellsSections s xs text → Here b at text (length b)
      → sections_at n s b at ≡ Ok (xs, length b)
  unfolding sections_at
  sections_again zero s b [] at text enough t h =
      let e : at ≡ length b = sym (omega (arith, h.size, ap length t)) in
      ap (λ (n : ℕ). Ok ([], n)) e
  sections_again (suc n) s b [] at text enough t h =
      let e : at ≡ length b = sym (omega (arith, h.size, ap length t)) in
      ap (λ t. more_or_end t n s b at) (le-ltb at (length b) (omega arith)) ∙ ap (λ (n : ℕ). Ok ([], n)) e
  sections_again zero s b (x ∷ xs) at text enough t h = let r = t.3.1 in absurd (omega (arith, h.size, ap length t.2, length-append t.0 t.1, ap length r.1))
  sections_again (suc n) s b (x ∷ xs) at text enough t h =
      let k = same_text b at (length b) text (t.0 ++ t.1) t.2 h in
      let mid = at + length t.0 in
      let r = t.3.1 in
      let some : 0 < length t.0 = omega (arith, ap length r.1) in
      let h1 = here_first b at (length b) t.0 t.1 k in
      ap (λ t. more_or_end t n s b at) (lt-ltb at (length b) (omega (arith, h1.within)))
      ∙ ap (λ r. r >>= sections_then n s b) (section_again s b at mid x t.0 t.3 h1)
      ∙ ap (λ r. r >>= with_section x) (sections_again n (after x s) b xs mid t.1 (omega arith) t.4 (here_second b at (length b) t.0 t.1 k))

  picked : {A : Type 0} (t : Bool) (x y z : A) → cond t x y ≡ z → ((t ≡ true) × (x ≡ z)) ⊎ ((t ≡ false) × (y ≡ z))
  picked true x y z e = inl (refl, e)
  picked false x y z e = inr (refl, e)

  abbrev SectionsHere : List ℕ → ℕ → Before → ℕ → List Section → Type 0
  SectionsHere b at s next xs = (text : List ℕ) × Here b at text next × (next ≡ length b) × SpellsSections s xs text

  no_sections : (s : Before) (b : List ℕ) (at next : ℕ) (xs : List Section) → at ≡ length b → (let made : List Section × ℕ = ([], at) in done made ≡ Ok (xs, next)) → SectionsHere b at s next xs
  no_sections s b at next xs end e =
      let made : List Section × ℕ = ([], at) in
      subst (λ (p : List Section × ℕ). SectionsHere b at s p.1 p.0) (ok_is made (xs, next) e) ([], nothing_here b at (omega arith), end, refl)

  pub sections_here : (n : ℕ) (s : Before) (b : List ℕ) → IsBytes b → (at next : ℕ) (xs : List Section) → at ≤ length b → length b ≤ n + at → sections_at n s b at ≡ Ok (xs, next)
      → SectionsHere b at s next xs
  unfolding sections_at
  sections_here zero s b fits at next xs le enough e = no_sections s b at next xs (omega arith) e
  sections_here (suc n) s b fits at next xs le enough e =
      elim (picked (nat_lt at (length b)) (section_at s b at >>= sections_then n s b) _ (Ok (xs, next)) e) [
        | inl t ↦
            let x = bind_ok (section_at s b at) (sections_then n s b) (xs, next) t.1 in
            let others = bind_ok (sections_at n (after x.0.0 s) b x.0.1) (with_section x.0.0) (xs, next) x.2 in
            let h1 = section_here s b fits at x.0.1 x.0.0 x.1 in
            let h2 = sections_here n (after x.0.0 s) b fits x.0.1 others.0.1 others.0.0 h1.1.within (omega (arith, h1.2)) others.1 in
            let made : List Section × ℕ = (x.0.0 ∷ others.0.0, others.0.1) in
            subst (λ (p : List Section × ℕ). SectionsHere b at s p.1 p.0) (ok_is made (xs, next) others.2)
            (h1.0 ++ h2.0, here_join b at x.0.1 others.0.1 h1.0 h2.0 h1.1 h2.1, h2.2, (h1.0, h2.0, refl, h1.3, h2.3))
        | inr t ↦ let past : length b ≤ at = ltb-false at (length b) t.0 in no_sections s b at next xs (omega arith) t.1
      ]
