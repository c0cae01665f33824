-- One file of a folder: it is within its limit, and what its bytes say.
use Rattle.std.proofs.Common.{◌≡◌, ◌⊎◌, ◌≤◌, ◌<◌, ℕ, Bool, true, false, nat_le, List, length, refl, sym, ap, subst, ◌∙◌, arith, inl, inr}
use Rattle.std.specs.Prelude.{Some, Result, Ok, Err, nat_lt, if◌then◌else◌}
use Rattle.std.proofs.lemmas.Bool.Decides.{nat_tests}
use Rattle.sha2.specs.declared.Sha256.{Sha256}
use Rattle.unit_specs.specs.Description.{Description}
use Rattle.description_specs.specs.Descriptions.{description_of}
use Rattle.module_specs.specs.declared.fault.Fault.TheVariants as fault
use Rattle.module_specs.specs.ModuleSpelling.{magic, version}
use Rattle.module_specs.specs.Reading.{◌>>=◌, refuse_if}
use Rattle.module_specs.specs.ModuleReading.{module_read, differs, rest_at}
use Rattle.bench_outside.specs.Causes.{Rose}
use Rattle.bench_outside.specs.Shelf.{Contents}
use Rattle.bench_outside.specs.declared.shelf.Shelf.{Ghosts as shelf_ghosts}
use Rattle.bench_outside.specs.declared.refusal.FileId.{FileId}
use Rattle.bench_outside.specs.declared.refusal.FileId.TheVariants as id
use Rattle.bench_outside.specs.declared.refusal.Why.TheVariants.{Size}
use Rattle.whole_files.specs.declared.fetching.FetchError.{FetchError}
use Rattle.whole_files.specs.declared.fetching.FetchError.TheVariants as fetch
use Rattle.refusal_names.specs.Modules.{refusal}
use Rattle.network_specs.specs.NetworkFiles.{network_file_of}
use Rattle.network_specs.specs.Judging.{judged}
use Rattle.network_specs.specs.Networks.{framed}
use Rattle.network_folder.specs.declared.error.NetError.{NetError}
use Rattle.network_folder.specs.declared.error.NetError.TheVariants as answer
use Rattle.network_folder.specs.Shelves.{Reads}
use Rattle.network_folder.specs.Parts.{Answers, ReadsFile, AreHeld, Adds, limited, file_said, description_said, module_said}
use Rattle.network_folder.proofs.Shelves.{failed, untouched, reads_as, reads_error}

-- ---- the limit

-- another answer than a failed read is none of one
pub kept : {X P : Type 0} (e : FetchError) (r : Result X FetchError) → r ≡ Err e → (e ≡ fetch.Unread → ⊥) → (r ≡ Err fetch.Unread) ⊎ P → P
kept e r is not (inl w) = let same = sym is ∙ w in absurd (not (cc same))
kept e r is not (inr p) = p

within : (file : FileId) (limit : ℕ) (b v : List ℕ) → limited file limit b ≡ Ok v → b ≡ v
within file limit b v h = go (nat_lt limit (length b)) h
  where
    go : (t : Bool) → (if t then Err (answer.Refused (refusal file Size limit)) else Ok b) ≡ Ok v → b ≡ v
    go true w = absurd (cc w)
    go false e = cc e

over : (file : FileId) (limit : ℕ) (b : List ℕ) (e : NetError) → limited file limit b ≡ Err e → (limit < length b) × (e ≡ answer.Refused (refusal file Size limit))
over file limit b e h = go (nat_lt limit (length b)) refl h
  where
    is_over : nat_lt limit (length b) ≡ true → limit < length b
    is_over t = grind (arith, nat_tests)

    go : (t : Bool) → nat_lt limit (length b) ≡ t → (if t then Err (answer.Refused (refusal file Size limit)) else Ok b) ≡ Err e → (limit < length b) × (e ≡ answer.Refused (refusal file Size limit))
    go true is k = (is_over is, cc k)
    go false is k = absurd (cc k)

too_many : (n limit : ℕ) → limit < n → nat_le n limit ≡ false
too_many n limit h = grind (arith, nat_tests)

more_than : (n limit : ℕ) → limit < n → nat_lt limit n ≡ true
more_than n limit h = grind (arith, nat_tests)

no_more : (n limit : ℕ) → n ≤ limit → nat_lt limit n ≡ false
no_more n limit h = grind (arith, nat_tests)

pub is_limited : (file : FileId) (limit : ℕ) (b : List ℕ) → length b ≤ limit → limited file limit b ≡ Ok b
is_limited file limit b h = rw (no_more (length b) limit h) refl

pub is_over_limit : (file : FileId) (limit : ℕ) (b : List ℕ) → limit < length b → limited file limit b ≡ Err (answer.Refused (refusal file Size limit))
is_over_limit file limit b h = rw (more_than (length b) limit h) refl

file_over : (b : List ℕ) → 1048576 < length b → file_said b ≡ Err (answer.Refused (refusal id.Main Size 1048576))
unfolding network_file_of
file_over b h = rw (too_many (length b) 1048576 h) refl

description_over : (place : ℕ) (b : List ℕ) → 1048576 < length b → description_said place b ≡ Err (answer.Refused (refusal (id.Description place) Size 1048576))
unfolding description_of
description_over place b h = rw (too_many (length b) 1048576 h) refl

module_over : (place : ℕ) (d : Description) (b : List ℕ) → 4194304 < length b → module_said place d b ≡ Err (answer.Refused (refusal (id.Module place) Size 4194304))
unfolding judged module_read
module_over place d b h = rw (more_than (length b) 4194304 h) refl

-- a file over its limit says so
abbrev pub Limits : {Y : Type 0} → FileId → ℕ → (List ℕ → Result Y NetError) → Type 0
Limits file limit said = (b : List ℕ) (e : NetError) → limited file limit b ≡ Err e → said b ≡ Err e

limits : {Y : Type 0} (file : FileId) (limit : ℕ) (said : List ℕ → Result Y NetError) → ((b : List ℕ) → limit < length b → said b ≡ Err (answer.Refused (refusal file Size limit))) → Limits file limit said
limits file limit said long b e h = let k = over file limit b e h in long b k.0 ∙ ap (λ x. Err x) (sym k.1)

pub file_limits : Limits id.Main 1048576 file_said
file_limits = limits id.Main 1048576 file_said file_over

pub description_limits : (place : ℕ) → Limits (id.Description place) 1048576 (description_said place)
description_limits place = limits (id.Description place) 1048576 (description_said place) (description_over place)

pub module_limits : (place : ℕ) (d : Description) → Limits (id.Module place) 4194304 (module_said place d)
module_limits place d = limits (id.Module place) 4194304 (module_said place d) (module_over place d)

-- ---- from bytes to what they say

module _ {H : Type 0} (shelf : shelf_ghosts H) where
  -- memory ran out before the file was read
  pub unasked : {X Y : Type 0} (before : H) (old new : Sha256) (file : FileId) (name : List ℕ) (view : X → Y) (said : List ℕ → Result Y NetError) → ReadsFile shelf before before old new file name view said (Err answer.Memory)
  unasked before old new file name view said = record {
    reads = untouched shelf before (Err answer.Memory) (λ f e. absurd (cc e));
    found = tt;
    refused = λ r held e is. absurd (cc e);
    unread = λ f e. absurd (cc e);
  }

  -- the file wasn't fetched
  pub unfetched : {X Y Z : Type 0} (before now : H) (old new : Sha256) (file : FileId) (limit : ℕ) (name : List ℕ) (items : Z → List ℕ) (view : X → Y) (said : List ℕ → Result Y NetError) (e : NetError) → Limits file limit said
      → ReadsFile shelf before now old new file name items (limited file limit) (Err e) → ReadsFile shelf before now old new file name view said (Err e)
  unfetched {X = X} before now old new file limit name items view said e long h = record {
    reads = reads_error shelf before now e h.reads;
    found = tt;
    refused = λ r held is held_is. long (held name) (answer.Refused r) (h.refused r held (again (answer.Refused r) is) held_is);
    unread = λ f is. h.unread f (again (answer.Unread f) is);
  }
    where
      again : {W : Type 0} (w : NetError) → failed X e ≡ Err w → failed W e ≡ Err w
      again w is = let same : e ≡ w = cc is in ap (λ x. Err x) same

  -- it was fetched, and its bytes say so
  pub fetched : {X Y Z : Type 0} (before now : H) (old new : Sha256) (file : FileId) (limit : ℕ) (name : List ℕ) (items : Z → List ℕ) (z : Z) (view : X → Y) (said : List ℕ → Result Y NetError) (result : Result X NetError)
      → ReadsFile shelf before now old new file name items (limited file limit) (Ok z) → Answers view result (said (items z)) → ReadsFile shelf before now old new file name view said result
  fetched before now old new file limit name items z view said (Ok x) h is = record {
    reads = reads_as shelf before now (Ok z) (Ok x) (λ f e. absurd (cc e)) (λ f e. absurd (cc e)) h.reads;
    found = (h.found.0, ap said (within file limit h.found.0 (items z) h.found.1) ∙ is, h.found.2, h.found.3);
    refused = λ r held e held_is. absurd (cc e);
    unread = λ f e. absurd (cc e);
  }
  fetched before now old new file limit name items z view said (Err answer.Memory) h is = record {
    reads = reads_as shelf before now (Ok z) (Err answer.Memory) (λ f e. absurd (cc e)) (λ f e. absurd (cc e)) h.reads;
    found = tt;
    refused = λ r held e held_is. absurd (cc e);
    unread = λ f e. absurd (cc e);
  }
  fetched before now old new file limit name items z view said (Err (answer.Refused q)) h is = record {
    reads = reads_as shelf before now (Ok z) (Err (answer.Refused q)) (λ f e. absurd (cc e)) (λ f e. absurd (cc e)) h.reads;
    found = tt;
    refused = λ r held e held_is.
        let bytes : h.found.0 ≡ held name = h.found.2 held held_is in
        let same : q ≡ r = cc e in
        ap said (sym bytes ∙ within file limit h.found.0 (items z) h.found.1) ∙ (is ∙ ap (λ x. Err (answer.Refused x)) same);
    unread = λ f e. absurd (cc e);
  }
  fetched before now old new file limit name items z view said (Err (answer.Unread f)) h is = absurd is

  -- ---- one read

  stays : {X : Type 0} (before now : H) (result : Result X NetError) → ((f : FileId) → result ≡ Err (answer.Unread f) → ⊥) → shelf.read_faults now ≡ shelf.read_faults before → shelf.holds now ≡ shelf.holds before
      → shelf.write_faults now ≡ shelf.write_faults before → Reads shelf before now result
  stays before now result not faults holds others = record { unread = λ f e. absurd (not f e); unblamed = inr faults; holds = holds; others = others }

  -- the file is within its limit
  pub whole_file : {Z : Type 0} (before now : H) (old new : Sha256) (file : FileId) (limit : ℕ) (name : List ℕ) (items : Z → List ℕ) (z : Z) → shelf.read_faults now ≡ shelf.read_faults before → shelf.holds now ≡ shelf.holds before
      → shelf.write_faults now ≡ shelf.write_faults before → AreHeld (shelf.holds before) name (items z) → length (items z) ≤ limit → Adds old new (framed (items z)) → ReadsFile shelf before now old new file name items (limited file limit) (Ok z)
  whole_file before now old new file limit name items z faults holds others held within adds = record {
    reads = stays before now (Ok z) (λ f e. absurd (cc e)) faults holds others;
    found = (items z, is_limited file limit (items z) within, held, adds);
    refused = λ r held e held_is. absurd (cc e);
    unread = λ f e. absurd (cc e);
  }

  -- it couldn't be read
  pub lost_file : {Z : Type 0} (before now : H) (old new : Sha256) (file : FileId) (limit : ℕ) (name : List ℕ) (items : Z → List ℕ) → Rose (shelf.read_faults before).count (shelf.read_faults now).count
      → (shelf.read_faults now).last ≡ name → shelf.holds now ≡ shelf.holds before → shelf.write_faults now ≡ shelf.write_faults before → ReadsFile shelf before now old new file name items (limited file limit) (Err (answer.Unread file))
  lost_file before now old new file limit name items rose named holds others = record {
    reads = record { unread = λ f e. rose; unblamed = inl (file, refl); holds = holds; others = others };
    found = tt;
    refused = λ r held e held_is. absurd (cc e);
    unread = λ f e. (let same : file ≡ f = cc e in sym same, named);
  }

  -- it is over its limit
  pub long_file : {Z : Type 0} (before now : H) (old new : Sha256) (file : FileId) (limit : ℕ) (name : List ℕ) (items : Z → List ℕ) → ((held : Contents) → shelf.holds before ≡ Some held → limit < length (held name))
      → shelf.read_faults now ≡ shelf.read_faults before → shelf.holds now ≡ shelf.holds before → shelf.write_faults now ≡ shelf.write_faults before
      → ReadsFile shelf before now old new file name items (limited file limit) (Err (answer.Refused (refusal file Size limit)))
  long_file before now old new file limit name items long faults holds others = record {
    reads = stays before now (Err (answer.Refused (refusal file Size limit))) (λ f e. absurd (cc e)) faults holds others;
    found = tt;
    refused = λ r held e held_is.
        let same : refusal file Size limit ≡ r = cc e in
        is_over_limit file limit (held name) (long held held_is) ∙ ap (λ x. Err (answer.Refused x)) same;
    unread = λ f e. absurd (cc e);
  }

  -- memory ran out
  pub no_memory : {Z : Type 0} (before now : H) (old new : Sha256) (file : FileId) (limit : ℕ) (name : List ℕ) (items : Z → List ℕ) → shelf.read_faults now ≡ shelf.read_faults before → shelf.holds now ≡ shelf.holds before
      → shelf.write_faults now ≡ shelf.write_faults before → ReadsFile shelf before now old new file name items (limited file limit) (Err answer.Memory)
  no_memory before now old new file limit name items faults holds others = record {
    reads = stays before now (Err answer.Memory) (λ f e. absurd (cc e)) faults holds others;
    found = tt;
    refused = λ r held e held_is. absurd (cc e);
    unread = λ f e. absurd (cc e);
  }

  -- ---- a file under the name that was made for it

  pub unfetched_as : {X Y Z : Type 0} (before now : H) (old new : Sha256) (file : FileId) (limit : ℕ) (given name : List ℕ) (same : given ≡ name) (items : Z → List ℕ) (view : X → Y) (said : List ℕ → Result Y NetError) (e : NetError) → Limits file limit said
      → ReadsFile shelf before now old new file given items (limited file limit) (Err e) → ReadsFile shelf before now old new file name view said (Err e)
  unfetched_as before now old new file limit given name same items view said e long h =
      subst (λ n. ReadsFile shelf before now old new file n view said (Err e)) same (unfetched before now old new file limit given items view said e long h)

  pub fetched_as : {X Y Z : Type 0} (before now : H) (old new : Sha256) (file : FileId) (limit : ℕ) (given name : List ℕ) (same : given ≡ name) (items : Z → List ℕ) (z : Z) (bytes : List ℕ) (read : bytes ≡ items z) (view : X → Y) (said : List ℕ → Result Y NetError) (result : Result X NetError)
      → ReadsFile shelf before now old new file given items (limited file limit) (Ok z) → Answers view result (said bytes) → ReadsFile shelf before now old new file name view said result
  fetched_as before now old new file limit given name same items z bytes read view said result h is =
      subst (λ n. ReadsFile shelf before now old new file n view said result) same
      (fetched before now old new file limit given items z view said result h (subst (λ b. Answers view result (said b)) read is))
