-- Whole modules: the shortest spelling is a spelling and as short as any.
use Rattle.std.proofs.Common.{◌≡◌, ℕ, ◌+◌, ◌<◌, ◌≤◌, ◌⊎◌, inl, inr, List, [], ◌∷◌, ◌++◌, length, map, Option, Some, None, refl, sym, ap, subst, ◌∙◌, arith, length-append, zero-le, append-nil}
use Rattle.std.proofs.lemmas.List.{length-map}
use Rattle.leb_bytes.specs.Writing.{shortest, unsigned_text}
use Rattle.leb_bytes.proofs.Splitting.{unsigned_spelled}
use Rattle.wasm_types.specs.Modules.{NestedFunc, NestedModule}
use Rattle.module_specs.specs.declared.section.SectionKind.{SectionKind}
use Rattle.module_specs.specs.declared.section.SectionKind.TheVariants as kind
use Rattle.module_specs.specs.Spelling.{SpellsU32, SpellsVector, SpellsSized}
use Rattle.module_specs.specs.CodeSpelling.{SpellsBody}
use Rattle.module_specs.specs.ModuleSpelling.{Behind, SpellsFuncType, SpellsTable, SpellsMemory, SpellsGlobal, SpellsExport, SpellsElement, SpellsData, Section, Custom, Types, Imports, Funcs, Tables, Memories, Globals, Exports, Start, Elements, Codes, Datas, id_byte, Before, start, after, indices_after, SpellsSection, SpellsSections, SpellsRest, SpellsModule, put, put_all, empty, module_of, declared, magic, version, most_bytes}
use Rattle.wasm_writer.specs.Texts.{vector_text, sized_text}
use Rattle.wasm_writer.specs.CodeTexts.{body_text}
use Rattle.wasm_writer.specs.ModuleTexts.{func_type_text, table_text, memory_text, global_text, export_text, element_text, data_text, section_text, items_text, start_text, sections_text, module_text}
use Rattle.wasm_writer.proofs.Least.{Least, behind_least, u32_least, vector_least, sized_least}
use Rattle.wasm_writer.proofs.LeastParts.{body_least, func_type_least, table_least, memory_least, global_least, export_least, element_least, data_least}

-- ---- sections of items

-- the section's text behind its id is a spelling
abbrev pub Good : {A : Type 0} → (A → List ℕ → Type 0) → (A → List ℕ) → List A → Type 0
Good S text xs = SpellsSized (SpellsVector S) xs (sized_text (vector_text text xs))

good_nil : {A : Type 0} (S : A → List ℕ → Type 0) (text : A → List ℕ) → Good S text []
unfolding shortest
good_nil S text =
    (unsigned_text 1, unsigned_text 0, refl, unsigned_spelled 32 1 (omega arith) (omega arith) (omega arith), (unsigned_text 0, [], refl, unsigned_spelled 32 0 (omega arith) (omega arith) (omega arith), refl))

record Kept {A : Type 0} (S : A → List ℕ → Type 0) (text : A → List ℕ) (k : SectionKind) (xs : List A) (other : List ℕ) : Type 0 where
  pub good : Good S text xs
  pub fewer : length (items_text k text xs) ≤ length other

kept : {A : Type 0} (S : A → List ℕ → Type 0) (text : A → List ℕ) → ((x : A) → Least (S x) (text x)) → (k : SectionKind) (xs : List A) (other : List ℕ)
    → Behind (id_byte k) (SpellsSized (SpellsVector S) xs) other → Kept S text k xs other
kept {A} S text item k xs other t = record { good = (sized xs).spelled t.0 t.2; fewer = by_items xs t }
  where
    sized : (xs : List A) → Least (SpellsSized (SpellsVector S) xs) (sized_text (vector_text text xs))
    sized xs = sized_least (SpellsVector S) xs (vector_text text xs) (vector_least S text item xs)

    by_items : (xs : List A) → Behind (id_byte k) (SpellsSized (SpellsVector S) xs) other → length (items_text k text xs) ≤ length other
    by_items [] t = zero-le
    by_items (x ∷ xs) t = (behind_least (id_byte k) (SpellsSized (SpellsVector S) (x ∷ xs)) (sized_text (vector_text text (x ∷ xs))) (sized (x ∷ xs))).unbeaten other t

abbrev pub GoodStart : Option ℕ → Type 0
GoodStart None = Unit {0}
GoodStart (Some f) = SpellsSized SpellsU32 f (sized_text (unsigned_text f))

start_least : (f : ℕ) → Least (SpellsSized SpellsU32 f) (sized_text (unsigned_text f))
start_least f = sized_least SpellsU32 f (unsigned_text f) (u32_least f)

-- ---- the parts of a module that some sections make

-- each part has a spelling; the functions' types are those of their section
pub record Parts (m : NestedModule) (ids : List ℕ) : Type 0 where
  pub types : Good SpellsFuncType func_type_text m.types
  pub indices : Good SpellsU32 unsigned_text ids
  pub tables : Good SpellsTable table_text m.tables
  pub memories : Good SpellsMemory memory_text m.memories
  pub globals : Good SpellsGlobal global_text m.globals
  pub exports : Good SpellsExport export_text m.exports
  pub start : GoodStart m.start
  pub elements : Good SpellsElement element_text m.elements
  pub codes : Good SpellsBody body_text m.funcs
  pub datas : Good SpellsData data_text m.datas

-- the bytes of all sections
abbrev pub bytes_of : NestedModule → List ℕ → ℕ
bytes_of m indices =
    length (items_text kind.Type func_type_text m.types)
    + (length (items_text kind.Function unsigned_text indices)
    + (length (items_text kind.Table table_text m.tables)
    + (length (items_text kind.Memory memory_text m.memories)
    + (length (items_text kind.Global global_text m.globals)
    + (length (items_text kind.Export export_text m.exports)
    + (length (start_text m.start)
    + (length (items_text kind.Element element_text m.elements)
    + (length (items_text kind.Code body_text m.funcs)
    + length (items_text kind.Data data_text m.datas)))))))))

-- a module so far, and a bound of its bytes
record State (m : NestedModule) (indices : List ℕ) (bytes : ℕ) : Type 0 where
  pub parts : Parts m indices
  pub fewer : bytes_of m indices ≤ bytes

module _ (m : NestedModule) (s : Before) (bytes : ℕ) (h : State m s.indices bytes) where
  section_kept : (x : Section) (text : List ℕ) → SpellsSection s x text → State (put x m) (indices_after x s.indices) (bytes + length text)
  section_kept Custom text t = record { parts = h.parts; fewer = omega (arith, h.fewer) }
  section_kept Imports text t = record { parts = h.parts; fewer = omega (arith, h.fewer) }
  section_kept (Types types) text t =
      let k = kept SpellsFuncType func_type_text func_type_least kind.Type types text t.1 in
      record { parts = record { types = k.good; indices = h.parts.indices; tables = h.parts.tables; memories = h.parts.memories; globals = h.parts.globals; exports = h.parts.exports; start = h.parts.start; elements = h.parts.elements; codes = h.parts.codes; datas = h.parts.datas }; fewer = omega (arith, h.fewer, k.fewer) }
  section_kept (Funcs indices) text t =
      let k = kept SpellsU32 unsigned_text u32_least kind.Function indices text t.1 in
      record { parts = record { types = h.parts.types; indices = k.good; tables = h.parts.tables; memories = h.parts.memories; globals = h.parts.globals; exports = h.parts.exports; start = h.parts.start; elements = h.parts.elements; codes = h.parts.codes; datas = h.parts.datas }; fewer = omega (arith, h.fewer, k.fewer) }
  section_kept (Tables tables) text t =
      let k = kept SpellsTable table_text table_least kind.Table tables text t.1 in
      record { parts = record { types = h.parts.types; indices = h.parts.indices; tables = k.good; memories = h.parts.memories; globals = h.parts.globals; exports = h.parts.exports; start = h.parts.start; elements = h.parts.elements; codes = h.parts.codes; datas = h.parts.datas }; fewer = omega (arith, h.fewer, k.fewer) }
  section_kept (Memories memories) text t =
      let k = kept SpellsMemory memory_text memory_least kind.Memory memories text t.1 in
      record { parts = record { types = h.parts.types; indices = h.parts.indices; tables = h.parts.tables; memories = k.good; globals = h.parts.globals; exports = h.parts.exports; start = h.parts.start; elements = h.parts.elements; codes = h.parts.codes; datas = h.parts.datas }; fewer = omega (arith, h.fewer, k.fewer) }
  section_kept (Globals globals) text t =
      let k = kept SpellsGlobal global_text global_least kind.Global globals text t.1 in
      record { parts = record { types = h.parts.types; indices = h.parts.indices; tables = h.parts.tables; memories = h.parts.memories; globals = k.good; exports = h.parts.exports; start = h.parts.start; elements = h.parts.elements; codes = h.parts.codes; datas = h.parts.datas }; fewer = omega (arith, h.fewer, k.fewer) }
  section_kept (Exports exports) text t =
      let k = kept SpellsExport export_text export_least kind.Export exports text t.1 in
      record { parts = record { types = h.parts.types; indices = h.parts.indices; tables = h.parts.tables; memories = h.parts.memories; globals = h.parts.globals; exports = k.good; start = h.parts.start; elements = h.parts.elements; codes = h.parts.codes; datas = h.parts.datas }; fewer = omega (arith, h.fewer, k.fewer) }
  section_kept (Elements elements) text t =
      let k = kept SpellsElement element_text element_least kind.Element elements text t.1 in
      record { parts = record { types = h.parts.types; indices = h.parts.indices; tables = h.parts.tables; memories = h.parts.memories; globals = h.parts.globals; exports = h.parts.exports; start = h.parts.start; elements = k.good; codes = h.parts.codes; datas = h.parts.datas }; fewer = omega (arith, h.fewer, k.fewer) }
  section_kept (Datas datas) text t =
      let k = kept SpellsData data_text data_least kind.Data datas text t.1 in
      record { parts = record { types = h.parts.types; indices = h.parts.indices; tables = h.parts.tables; memories = h.parts.memories; globals = h.parts.globals; exports = h.parts.exports; start = h.parts.start; elements = h.parts.elements; codes = h.parts.codes; datas = k.good }; fewer = omega (arith, h.fewer, k.fewer) }
  section_kept (Codes funcs) text t =
      let sized = t.1.2 in
      let k = kept SpellsBody body_text body_least kind.Code funcs text (t.1.0, t.1.1, (sized.0, sized.1, sized.2, sized.3, sized.4.1)) in
      record { parts = record { types = h.parts.types; indices = h.parts.indices; tables = h.parts.tables; memories = h.parts.memories; globals = h.parts.globals; exports = h.parts.exports; start = h.parts.start; elements = h.parts.elements; codes = k.good; datas = h.parts.datas }; fewer = omega (arith, h.fewer, k.fewer) }
  section_kept (Start func) text t =
      let sized = start_least func in
      let fewer : length (start_text (Some func)) ≤ length text = (behind_least 8 (SpellsSized SpellsU32 func) (sized_text (unsigned_text func)) sized).unbeaten text t.1 in
      record { parts = record { types = h.parts.types; indices = h.parts.indices; tables = h.parts.tables; memories = h.parts.memories; globals = h.parts.globals; exports = h.parts.exports; start = sized.spelled t.1.0 t.1.2; elements = h.parts.elements; codes = h.parts.codes; datas = h.parts.datas }; fewer = omega (arith, h.fewer, fewer) }

sections_kept : (xs : List Section) (s : Before) (m : NestedModule) (bytes : ℕ) (text : List ℕ) → State m s.indices bytes → SpellsSections s xs text
    → State (put_all xs m) (declared xs s.indices) (bytes + length text)
sections_kept [] s m bytes text h t = record { parts = h.parts; fewer = omega (arith, h.fewer) }
sections_kept (x ∷ xs) s m bytes text h t =
    let first = section_kept m s bytes h x t.0 t.3 in
    let all = sections_kept xs (after x s) (put x m) (bytes + length t.0) t.1 first t.4 in
    let whole : bytes + length t.0 + length t.1 ≡ bytes + length text = omega (arith, ap length t.2, length-append t.0 t.1) in
    subst (State (put_all xs (put x m)) (declared xs (indices_after x s.indices))) whole all

nothing_kept : State empty [] 0
nothing_kept = record {
  parts = record {
    types = good_nil SpellsFuncType func_type_text;
    indices = good_nil SpellsU32 unsigned_text;
    tables = good_nil SpellsTable table_text;
    memories = good_nil SpellsMemory memory_text;
    globals = good_nil SpellsGlobal global_text;
    exports = good_nil SpellsExport export_text;
    start = tt;
    elements = good_nil SpellsElement element_text;
    codes = good_nil SpellsBody body_text;
    datas = good_nil SpellsData data_text;
  };
  fewer = zero-le;
}

-- ---- functions have the types that their section says

abbrev pub types_of : NestedModule → List ℕ
types_of m = map (λ f. f.ty) m.funcs

-- behind the code section no functions come
record Settled (xs : List Section) (m : NestedModule) (ids : List ℕ) : Type 0 where
  pub funcs : (put_all xs m).funcs ≡ m.funcs
  pub indices : declared xs ids ≡ ids

settled : (xs : List Section) (s : Before) (m : NestedModule) (text : List ℕ) → 10 ≤ s.last → SpellsSections s xs text → Settled xs m s.indices
settled [] s m text late t = record { funcs = refl; indices = refl }
settled (Custom ∷ xs) s m text late t =
    let rest = settled xs s m t.1 late t.4 in
    record { funcs = rest.funcs; indices = rest.indices }
settled (Datas datas ∷ xs) s m text late t =
    let rest = settled xs (after (Datas datas) s) (put (Datas datas) m) t.1 (omega arith) t.4 in
    record { funcs = rest.funcs; indices = rest.indices }
settled (Types types ∷ xs) s m text late t = let early : s.last < 1 = t.3.0 in absurd (omega arith)
settled (Imports ∷ xs) s m text late t = let early : s.last < 2 = t.3.0 in absurd (omega arith)
settled (Funcs indices ∷ xs) s m text late t = let early : s.last < 3 = t.3.0 in absurd (omega arith)
settled (Tables tables ∷ xs) s m text late t = let early : s.last < 4 = t.3.0 in absurd (omega arith)
settled (Memories memories ∷ xs) s m text late t = let early : s.last < 5 = t.3.0 in absurd (omega arith)
settled (Globals globals ∷ xs) s m text late t = let early : s.last < 6 = t.3.0 in absurd (omega arith)
settled (Exports exports ∷ xs) s m text late t = let early : s.last < 7 = t.3.0 in absurd (omega arith)
settled (Start func ∷ xs) s m text late t = let early : s.last < 8 = t.3.0 in absurd (omega arith)
settled (Elements elements ∷ xs) s m text late t = let early : s.last < 9 = t.3.0 in absurd (omega arith)
settled (Codes funcs ∷ xs) s m text late t = let early : s.last < 10 = t.3.0 in absurd (omega arith)

abbrev Typed : NestedModule → List ℕ → Type 0
Typed m indices = (m.funcs ≡ []) ⊎ (types_of m ≡ indices)

typed : (xs : List Section) (s : Before) (m : NestedModule) (text : List ℕ) → m.funcs ≡ [] → SpellsSections s xs text → Typed (put_all xs m) (declared xs s.indices)
typed [] s m text none t = inl none
typed (Codes funcs ∷ xs) s m text none t =
    let content = t.3.1.2.4 in
    let rest = settled xs (after (Codes funcs) s) (put (Codes funcs) m) t.1 (omega arith) t.4 in
    inr (ap (map (λ (f : NestedFunc). f.ty)) rest.funcs ∙ content.0 ∙ sym rest.indices)
typed (Custom ∷ xs) s m text none t = typed xs (after Custom s) (put Custom m) t.1 none t.4
typed (Types types ∷ xs) s m text none t = typed xs (after (Types types) s) (put (Types types) m) t.1 none t.4
typed (Imports ∷ xs) s m text none t = typed xs (after Imports s) (put Imports m) t.1 none t.4
typed (Funcs indices ∷ xs) s m text none t = typed xs (after (Funcs indices) s) (put (Funcs indices) m) t.1 none t.4
typed (Tables tables ∷ xs) s m text none t = typed xs (after (Tables tables) s) (put (Tables tables) m) t.1 none t.4
typed (Memories memories ∷ xs) s m text none t = typed xs (after (Memories memories) s) (put (Memories memories) m) t.1 none t.4
typed (Globals globals ∷ xs) s m text none t = typed xs (after (Globals globals) s) (put (Globals globals) m) t.1 none t.4
typed (Exports exports ∷ xs) s m text none t = typed xs (after (Exports exports) s) (put (Exports exports) m) t.1 none t.4
typed (Start func ∷ xs) s m text none t = typed xs (after (Start func) s) (put (Start func) m) t.1 none t.4
typed (Elements elements ∷ xs) s m text none t = typed xs (after (Elements elements) s) (put (Elements elements) m) t.1 none t.4
typed (Datas datas ∷ xs) s m text none t = typed xs (after (Datas datas) s) (put (Datas datas) m) t.1 none t.4

no_items : (xs : List ℕ) → length xs ≡ 0 → xs ≡ []
no_items [] e = refl
no_items (x ∷ xs) e = absurd (omega arith)

-- where there are as many functions as types
same_types : (m : NestedModule) (indices : List ℕ) → Typed m indices → length m.funcs ≡ length indices → types_of m ≡ indices
same_types m indices (inl none) same = ap (map (λ (f : NestedFunc). f.ty)) none ∙ sym (no_items indices (let n = ap length none in omega arith))
same_types m indices (inr is) same = is

-- all that a spelling says of the shortest one
pub record Spelled (m : NestedModule) (rest : List ℕ) : Type 0 where
  pub parts : Parts m (types_of m)
  pub fewer : bytes_of m (types_of m) ≤ length rest

pub spelled_of : (m : NestedModule) (rest : List ℕ) → SpellsRest m rest → Spelled m rest
spelled_of m rest t =
    let state = sections_kept t.0 start empty 0 rest nothing_kept t.3 in
    let typed = typed t.0 start empty rest refl t.3 in
    let made : NestedModule = module_of t.0 in
    let same : types_of made ≡ declared t.0 [] = same_types made (declared t.0 []) typed (ap (λ (m : NestedModule). length m.funcs) (sym t.1) ∙ t.2) in
    let moved : State made (types_of made) (0 + length rest) = subst (λ l. State made l (0 + length rest)) (sym same) state in
    let is : State m (types_of m) (0 + length rest) = subst (λ m. State m (types_of m) (0 + length rest)) (sym t.1) moved in
    record { parts = is.parts; fewer = omega (arith, is.fewer) }

-- ---- the sections of the shortest spelling

abbrev some : {A : Type 0} → (List A → Section) → List A → List Section
some make [] = []
some make (x ∷ xs) = make (x ∷ xs) ∷ []

abbrev some_start : Option ℕ → List Section
some_start None = []
some_start (Some f) = Start f ∷ []

abbrev after_some : {A : Type 0} → (List A → Section) → List A → Before → Before
after_some make [] s = s
after_some make (x ∷ xs) s = after (make (x ∷ xs)) s

abbrev after_start : Option ℕ → Before → Before
after_start None s = s
after_start (Some f) s = after (Start f) s

module _ {A : Type 0} (make : List A → Section) where
  some_spelled : (k : SectionKind) (text : A → List ℕ) (xs : List A) (s : Before) (rest : List Section) (behind : List ℕ)
      → SpellsSection s (make xs) (section_text k (vector_text text xs)) → SpellsSections (after_some make xs s) rest behind
      → SpellsSections s (some make xs ++ rest) (items_text k text xs ++ behind)
  some_spelled k text [] s rest behind here next = next
  some_spelled k text (x ∷ xs) s rest behind here next = (section_text k (vector_text text (x ∷ xs)), behind, refl, here, next)

  last_is : (n : ℕ) → ((xs : List A) (s : Before) → (after (make xs) s).last ≡ n) → (xs : List A) (s : Before) → s.last ≤ n → (after_some make xs s).last ≤ n
  last_is n is [] s le = le
  last_is n is (x ∷ xs) s le = let e = is (x ∷ xs) s in omega (arith, e)

  indices_stay : ((xs : List A) (s : Before) → (after (make xs) s).indices ≡ s.indices) → (xs : List A) (s : Before) → (after_some make xs s).indices ≡ s.indices
  indices_stay is [] s = refl
  indices_stay is (x ∷ xs) s = is (x ∷ xs) s

  put_some : (set : List A → NestedModule) → ((xs : List A) → put (make xs) (set []) ≡ set xs) → (xs : List A) (rest : List Section)
      → put_all (some make xs ++ rest) (set []) ≡ put_all rest (set xs)
  put_some set is [] rest = refl
  put_some set is (x ∷ xs) rest = ap (put_all rest) (is (x ∷ xs))

  declared_some : ((xs : List A) (indices : List ℕ) → indices_after (make xs) indices ≡ indices) → (xs : List A) (rest : List Section) (indices : List ℕ)
      → declared (some make xs ++ rest) indices ≡ declared rest indices
  declared_some is [] rest indices = refl
  declared_some is (x ∷ xs) rest indices = ap (declared rest) (is (x ∷ xs) indices)

start_spelled : (f : Option ℕ) (s : Before) (rest : List Section) (behind : List ℕ) → s.last < 8 → GoodStart f → SpellsSections (after_start f s) rest behind
    → SpellsSections s (some_start f ++ rest) (start_text f ++ behind)
start_spelled None s rest behind early good next = next
start_spelled (Some f) s rest behind early good next = (section_text kind.Start (unsigned_text f), behind, refl, (early, (sized_text (unsigned_text f), refl, good)), next)

start_last : (f : Option ℕ) (s : Before) → s.last ≤ 8 → (after_start f s).last ≤ 8
start_last None s le = le
start_last (Some f) s le = omega arith

start_indices : (f : Option ℕ) (s : Before) → (after_start f s).indices ≡ s.indices
start_indices None s = refl
start_indices (Some f) s = refl

funcs_indices : (indices : List ℕ) (s : Before) → s.indices ≡ [] → (after_some Funcs indices s).indices ≡ indices
funcs_indices [] s none = none
funcs_indices (n ∷ indices) s none = refl

declared_funcs : (indices : List ℕ) (rest : List Section) → declared (some Funcs indices ++ rest) [] ≡ declared rest indices
declared_funcs [] rest = refl
declared_funcs (n ∷ indices) rest = refl

module _ (m : NestedModule) where
  -- the sections from each one on, their text, and what stands before them
  abbrev rest_9 : List Section
  rest_9 = some Datas m.datas ++ []

  abbrev rest_8 : List Section
  rest_8 = some Codes m.funcs ++ rest_9

  abbrev rest_7 : List Section
  rest_7 = some Elements m.elements ++ rest_8

  abbrev rest_6 : List Section
  rest_6 = some_start m.start ++ rest_7

  abbrev rest_5 : List Section
  rest_5 = some Exports m.exports ++ rest_6

  abbrev rest_4 : List Section
  rest_4 = some Globals m.globals ++ rest_5

  abbrev rest_3 : List Section
  rest_3 = some Memories m.memories ++ rest_4

  abbrev rest_2 : List Section
  rest_2 = some Tables m.tables ++ rest_3

  abbrev rest_1 : List Section
  rest_1 = some Funcs (types_of m) ++ rest_2

  abbrev rest_0 : List Section
  rest_0 = some Types m.types ++ rest_1

  abbrev text_9 : List ℕ
  text_9 = items_text kind.Data data_text m.datas

  abbrev text_8 : List ℕ
  text_8 = items_text kind.Code body_text m.funcs ++ text_9

  abbrev text_7 : List ℕ
  text_7 = items_text kind.Element element_text m.elements ++ text_8

  abbrev text_6 : List ℕ
  text_6 = start_text m.start ++ text_7

  abbrev text_5 : List ℕ
  text_5 = items_text kind.Export export_text m.exports ++ text_6

  abbrev text_4 : List ℕ
  text_4 = items_text kind.Global global_text m.globals ++ text_5

  abbrev text_3 : List ℕ
  text_3 = items_text kind.Memory memory_text m.memories ++ text_4

  abbrev text_2 : List ℕ
  text_2 = items_text kind.Table table_text m.tables ++ text_3

  abbrev text_1 : List ℕ
  text_1 = items_text kind.Function unsigned_text (types_of m) ++ text_2

  abbrev text_0 : List ℕ
  text_0 = items_text kind.Type func_type_text m.types ++ text_1

  abbrev before_0 : Before
  before_0 = start

  abbrev before_1 : Before
  before_1 = after_some Types m.types before_0

  abbrev before_2 : Before
  before_2 = after_some Funcs (types_of m) before_1

  abbrev before_3 : Before
  before_3 = after_some Tables m.tables before_2

  abbrev before_4 : Before
  before_4 = after_some Memories m.memories before_3

  abbrev before_5 : Before
  before_5 = after_some Globals m.globals before_4

  abbrev before_6 : Before
  before_6 = after_some Exports m.exports before_5

  abbrev before_7 : Before
  before_7 = after_start m.start before_6

  abbrev before_8 : Before
  before_8 = after_some Elements m.elements before_7

  abbrev before_9 : Before
  before_9 = after_some Codes m.funcs before_8

  last_0 : before_0.last ≤ 0
  last_0 = zero-le

  last_1 : before_1.last ≤ 1
  last_1 = last_is Types 1 (λ xs s. refl) m.types before_0 (let h = last_0 in omega arith)

  last_2 : before_2.last ≤ 3
  last_2 = last_is Funcs 3 (λ xs s. refl) (types_of m) before_1 (let h = last_1 in omega arith)

  last_3 : before_3.last ≤ 4
  last_3 = last_is Tables 4 (λ xs s. refl) m.tables before_2 (let h = last_2 in omega arith)

  last_4 : before_4.last ≤ 5
  last_4 = last_is Memories 5 (λ xs s. refl) m.memories before_3 (let h = last_3 in omega arith)

  last_5 : before_5.last ≤ 6
  last_5 = last_is Globals 6 (λ xs s. refl) m.globals before_4 (let h = last_4 in omega arith)

  last_6 : before_6.last ≤ 7
  last_6 = last_is Exports 7 (λ xs s. refl) m.exports before_5 (let h = last_5 in omega arith)

  last_7 : before_7.last ≤ 8
  last_7 = start_last m.start before_6 (let h = last_6 in omega arith)

  last_8 : before_8.last ≤ 9
  last_8 = last_is Elements 9 (λ xs s. refl) m.elements before_7 (let h = last_7 in omega arith)

  last_9 : before_9.last ≤ 10
  last_9 = last_is Codes 10 (λ xs s. refl) m.funcs before_8 (let h = last_8 in omega arith)

  indices_2 : before_2.indices ≡ types_of m
  indices_2 = funcs_indices (types_of m) before_1 (indices_stay Types (λ xs s. refl) m.types before_0)

  indices_3 : before_3.indices ≡ types_of m
  indices_3 = indices_stay Tables (λ xs s. refl) m.tables before_2 ∙ indices_2

  indices_4 : before_4.indices ≡ types_of m
  indices_4 = indices_stay Memories (λ xs s. refl) m.memories before_3 ∙ indices_3

  indices_5 : before_5.indices ≡ types_of m
  indices_5 = indices_stay Globals (λ xs s. refl) m.globals before_4 ∙ indices_4

  indices_6 : before_6.indices ≡ types_of m
  indices_6 = indices_stay Exports (λ xs s. refl) m.exports before_5 ∙ indices_5

  indices_7 : before_7.indices ≡ types_of m
  indices_7 = start_indices m.start before_6 ∙ indices_6

  indices_8 : before_8.indices ≡ types_of m
  indices_8 = indices_stay Elements (λ xs s. refl) m.elements before_7 ∙ indices_7

  module _ (p : Parts m (types_of m)) where
    from_9 : SpellsSections before_9 rest_9 text_9
    from_9 =
        subst (SpellsSections before_9 rest_9) (append-nil text_9)
        (some_spelled Datas kind.Data data_text m.datas before_9 [] [] ((let h = last_9 in omega arith), (sized_text (vector_text data_text m.datas), refl, p.datas)) refl)

    from_8 : SpellsSections before_8 rest_8 text_8
    from_8 = some_spelled Codes kind.Code body_text m.funcs before_8 rest_9 text_9 ((let h = last_8 in omega arith), (sized_text (vector_text body_text m.funcs), refl, (p.codes.0, p.codes.1, p.codes.2, p.codes.3, (sym indices_8, p.codes.4)))) from_9

    from_7 : SpellsSections before_7 rest_7 text_7
    from_7 = some_spelled Elements kind.Element element_text m.elements before_7 rest_8 text_8 ((let h = last_7 in omega arith), (sized_text (vector_text element_text m.elements), refl, p.elements)) from_8

    from_6 : SpellsSections before_6 rest_6 text_6
    from_6 = start_spelled m.start before_6 rest_7 text_7 (let h = last_6 in omega arith) p.start from_7

    from_5 : SpellsSections before_5 rest_5 text_5
    from_5 = some_spelled Exports kind.Export export_text m.exports before_5 rest_6 text_6 ((let h = last_5 in omega arith), (sized_text (vector_text export_text m.exports), refl, p.exports)) from_6

    from_4 : SpellsSections before_4 rest_4 text_4
    from_4 = some_spelled Globals kind.Global global_text m.globals before_4 rest_5 text_5 ((let h = last_4 in omega arith), (sized_text (vector_text global_text m.globals), refl, p.globals)) from_5

    from_3 : SpellsSections before_3 rest_3 text_3
    from_3 = some_spelled Memories kind.Memory memory_text m.memories before_3 rest_4 text_4 ((let h = last_3 in omega arith), (sized_text (vector_text memory_text m.memories), refl, p.memories)) from_4

    from_2 : SpellsSections before_2 rest_2 text_2
    from_2 = some_spelled Tables kind.Table table_text m.tables before_2 rest_3 text_3 ((let h = last_2 in omega arith), (sized_text (vector_text table_text m.tables), refl, p.tables)) from_3

    from_1 : SpellsSections before_1 rest_1 text_1
    from_1 = some_spelled Funcs kind.Function unsigned_text (types_of m) before_1 rest_2 text_2 ((let h = last_1 in omega arith), (sized_text (vector_text unsigned_text (types_of m)), refl, p.indices)) from_2

    from_0 : SpellsSections before_0 rest_0 text_0
    from_0 = some_spelled Types kind.Type func_type_text m.types before_0 rest_1 text_1 ((let h = last_0 in omega arith), (sized_text (vector_text func_type_text m.types), refl, p.types)) from_1

  is_made : module_of rest_0 ≡ m
  is_made =
      put_some Types (λ xs. record { types = xs; funcs = []; tables = []; memories = []; globals = []; exports = []; start = None; elements = []; datas = [] }) (λ _. refl) m.types rest_1
      ∙ put_some Funcs (λ _. record { types = m.types; funcs = []; tables = []; memories = []; globals = []; exports = []; start = None; elements = []; datas = [] }) (λ _. refl) (types_of m) rest_2
      ∙ put_some Tables (λ xs. record { types = m.types; funcs = []; tables = xs; memories = []; globals = []; exports = []; start = None; elements = []; datas = [] }) (λ _. refl) m.tables rest_3
      ∙ put_some Memories (λ xs. record { types = m.types; funcs = []; tables = m.tables; memories = xs; globals = []; exports = []; start = None; elements = []; datas = [] }) (λ _. refl) m.memories rest_4
      ∙ put_some Globals (λ xs. record { types = m.types; funcs = []; tables = m.tables; memories = m.memories; globals = xs; exports = []; start = None; elements = []; datas = [] }) (λ _. refl) m.globals rest_5
      ∙ put_some Exports (λ xs. record { types = m.types; funcs = []; tables = m.tables; memories = m.memories; globals = m.globals; exports = xs; start = None; elements = []; datas = [] }) (λ _. refl) m.exports rest_6
      ∙ put_start m.start rest_7
      ∙ put_some Elements (λ xs. record { types = m.types; funcs = []; tables = m.tables; memories = m.memories; globals = m.globals; exports = m.exports; start = m.start; elements = xs; datas = [] }) (λ _. refl) m.elements rest_8
      ∙ put_some Codes (λ xs. record { types = m.types; funcs = xs; tables = m.tables; memories = m.memories; globals = m.globals; exports = m.exports; start = m.start; elements = m.elements; datas = [] }) (λ _. refl) m.funcs rest_9
      ∙ put_some Datas (λ xs. record { types = m.types; funcs = m.funcs; tables = m.tables; memories = m.memories; globals = m.globals; exports = m.exports; start = m.start; elements = m.elements; datas = xs }) (λ _. refl) m.datas []
    where
      put_start : (f : Option ℕ) (rest : List Section)
          → put_all (some_start f ++ rest) (record { types = m.types; funcs = []; tables = m.tables; memories = m.memories; globals = m.globals; exports = m.exports; start = None; elements = []; datas = [] })
          ≡ put_all rest (record { types = m.types; funcs = []; tables = m.tables; memories = m.memories; globals = m.globals; exports = m.exports; start = f; elements = []; datas = [] })
      put_start None rest = refl
      put_start (Some f) rest = refl

  is_declared : declared rest_0 [] ≡ types_of m
  is_declared =
      declared_some Types (λ xs indices. refl) m.types rest_1 []
      ∙ declared_funcs (types_of m) rest_2
      ∙ declared_some Tables (λ xs indices. refl) m.tables rest_3 (types_of m)
      ∙ declared_some Memories (λ xs indices. refl) m.memories rest_4 (types_of m)
      ∙ declared_some Globals (λ xs indices. refl) m.globals rest_5 (types_of m)
      ∙ declared_some Exports (λ xs indices. refl) m.exports rest_6 (types_of m)
      ∙ declared_start m.start rest_7 (types_of m)
      ∙ declared_some Elements (λ xs indices. refl) m.elements rest_8 (types_of m)
      ∙ declared_some Codes (λ xs indices. refl) m.funcs rest_9 (types_of m)
      ∙ declared_some Datas (λ xs indices. refl) m.datas [] (types_of m)
    where
      declared_start : (f : Option ℕ) (rest : List Section) (indices : List ℕ) → declared (some_start f ++ rest) indices ≡ declared rest indices
      declared_start None rest indices = refl
      declared_start (Some f) rest indices = refl

  length-sections_text : length (sections_text m) ≡ bytes_of m (types_of m)
  length-sections_text = omega (
    arith,
    length-append (items_text kind.Type func_type_text m.types) text_1,
    length-append (items_text kind.Function unsigned_text (types_of m)) text_2,
    length-append (items_text kind.Table table_text m.tables) text_3,
    length-append (items_text kind.Memory memory_text m.memories) text_4,
    length-append (items_text kind.Global global_text m.globals) text_5,
    length-append (items_text kind.Export export_text m.exports) text_6,
    length-append (start_text m.start) text_7,
    length-append (items_text kind.Element element_text m.elements) text_8,
    length-append (items_text kind.Code body_text m.funcs) text_9,
  )

  pub module_least : Least (SpellsModule m) (module_text m)
  module_least = record { spelled = spelled; unbeaten = unbeaten }
    where
      unbeaten : (other : List ℕ) → SpellsModule m other → length (module_text m) ≤ length other
      unbeaten other t =
          let rest = spelled_of m t.1.0 t.1.2 in
          let whole : length other ≡ length (magic ++ (version ++ t.1.0)) = ap length t.1.1 in
          omega (arith, rest.fewer, length-sections_text)

      spelled : (other : List ℕ) → SpellsModule m other → SpellsModule m (module_text m)
      spelled other t =
          let rest = spelled_of m t.1.0 t.1.2 in
          let number : length m.funcs ≡ length (declared rest_0 []) = sym (length-map m.funcs (λ (f : NestedFunc). f.ty)) ∙ ap length (sym is_declared) in
          let fewer = unbeaten other t in
          let most : length other ≤ most_bytes = t.0 in
          (omega (arith, fewer, most), (sections_text m, refl, (rest_0, sym is_made, number, from_0 rest.parts)))
