-- What holds of the replies of guests.
use Rattle.std.specs.Prelude.{◌≡◌, ℕ, ◌+◌, ◌%◌, ◌<◌, Bool, true, false, IsTrue, List, [], ◌∷◌, map, option_map, Option, None, Some, Result, Ok, Err, nat_le, refl}
use Rattle.std.proofs.Common.{sym, ap, ◌∙◌, subst, arith}
use Rattle.std.proofs.lemmas.Bool.{lt-ltb}
use Rattle.std.proofs.lemmas.List.Elements.{All-nil, All-cons}
use Rattle.fmi_states.specs.declared.status.FmiStatus.{FmiStatus}
use Rattle.fmi_states.specs.declared.call.Call.{Call}
use Rattle.fmi_states.specs.declared.call.Call.TheVariants as call
use Rattle.fmi_states.specs.declared.reply.Reply.{Reply}
use Rattle.fmi_states.specs.declared.reply.Reply.TheVariants as reply
use Rattle.fmi_states.specs.declared.reply.Broken.{Broken}
use Rattle.fmi_states.specs.declared.reply.Broken.TheVariants.{BadBuffer}
use Rattle.fmi_states.specs.Phase.{next_phase}
use Rattle.fmi_states.specs.Reply.{status_of, bytes_in, AreBytes, are_bytes, is_suitable}
use Rattle.code_specs.specs.Stores.{bytes_at}
use Rattle.binding_specs.specs.Guests.{Guest, most_bytes, bytes_place}
use Rattle.binding_specs.specs.Pieces.{Work, follow, wanted}
use Rattle.binding_specs.specs.Exchanges.{is_fine, number_in_area, flag_in_area, qualifier_in_area, bytes_if, binary_in_area, asks_area, bare_reply, full_reply, reply_if, prepares, status_by, exchange}
use Rattle.binding_specs.specs.Answers.{work_of, reply_of, answer}
use Rattle.binding_laws.proofs.Follows.{Leads, follow_leads, follow_knowing}

-- bytes, as clauses and as tests say it
record Bytes (bytes : List ℕ) : Type 0 where
  pub are : AreBytes bytes
  pub pass : IsTrue (are_bytes bytes)

none_are : Bytes []
none_are = record { are = All-nil (λ b. b < 256); pass = refl }

-- each is read as a byte
below : (bytes : List ℕ) → Bytes (map (λ b. b % 256) bytes)
below [] = none_are
below (b ∷ bs) =
    let small : b % 256 < 256 = omega arith in
    record {
      are = All-cons (λ b. b < 256) (b % 256) (map (λ b. b % 256) bs) small (below bs).are;
      pass = rw (lt-ltb (b % 256) 256 small) (below bs).pass;
    }

abbrev AreRead : List ℕ → Work → Type 0
AreRead bytes w = Bytes bytes

read_below : (o : Option (List ℕ)) (w : Work)
    → Leads AreRead (wanted BadBuffer (option_map (map (λ b. b % 256)) o) w).0 (wanted BadBuffer (option_map (map (λ b. b % 256)) o) w).1
read_below None w = tt
read_below (Some bytes) w = below bytes

taken_below : (fits : Bool) (count : ℕ) (w : Work) → Leads AreRead (bytes_if fits count w).0 (bytes_if fits count w).1
taken_below true count w = read_below (bytes_at w.store.bytes (w.area + bytes_place) count) w
taken_below false count w = tt

-- what the laws say of a reply with this status
record IsReply (c : Call) (status : FmiStatus) (r : Reply) : Type 0 where
  pub suits : IsTrue (is_suitable c r)
  pub bytes : AreBytes (bytes_in r)
  pub has : status_of r ≡ Some status

abbrev Is : Call → FmiStatus → Reply → Work → Type 0
Is c status r w = IsReply c status r

-- a reply without bytes
plain : (c : Call) (status : FmiStatus) (r : Reply) → IsTrue (is_suitable c r) → bytes_in r ≡ [] → status_of r ≡ Some status → IsReply c status r
plain c status r suits none has = record { suits = suits; bytes = subst AreBytes (sym none) (All-nil (λ b. b < 256)); has = has }

clock_is : (reference : ℕ) (status : FmiStatus) (w : Work) → Leads (Is (call.GetClock reference) status) (follow (flag_in_area 0 w).0 (λ ticks w. (Ok (reply.Clock status ticks), w)) (flag_in_area 0 w).1).0 (follow (flag_in_area 0 w).0 (λ ticks w. (Ok (reply.Clock status ticks), w)) (flag_in_area 0 w).1).1
clock_is reference status w =
    follow_leads (Is (call.GetClock reference) status) (flag_in_area 0 w).0 (λ ticks w. (Ok (reply.Clock status ticks), w)) (flag_in_area 0 w).1 (λ ticks.
    plain (call.GetClock reference) status (reply.Clock status ticks) refl refl refl)

full_is : (g : Guest) (c : Call) (status : FmiStatus) (w : Work) → Leads (Is c status) (full_reply g c status w).0 (full_reply g c status w).1
full_is g call.Instantiate status w =
    follow_leads (Is call.Instantiate status) (asks_area g w).0 (λ placed w. (Ok (reply.Plain status), w)) (asks_area g w).1 (λ placed.
    plain call.Instantiate status (reply.Plain status) refl refl refl)
full_is g (call.GetClock reference) status w = clock_is reference status w
full_is g (call.GetBinary reference) status w =
    let most = most_bytes g.description.terminals reference in
    follow_knowing AreRead (Is (call.GetBinary reference) status) (binary_in_area most w).0 (λ bytes w. (Ok (reply.Data status bytes), w)) (binary_in_area most w).1
    (follow_leads AreRead (number_in_area 0 4 w).0 (λ count. bytes_if (nat_le count most) count) (number_in_area 0 4 w).1 (λ count.
    taken_below (nat_le count most) count (number_in_area 0 4 w).1))
    (λ bytes read. record { suits = read.pass; bytes = read.are; has = refl })
full_is g call.Update status w =
    follow_leads (Is call.Update status) (flag_in_area 0 w).0 (λ another w. follow (flag_in_area 4 w).0 (λ end w. (Ok (reply.Updated status another end), w)) (flag_in_area 4 w).1) (flag_in_area 0 w).1 (λ another.
    let w = (flag_in_area 0 w).1 in
    follow_leads (Is call.Update status) (flag_in_area 4 w).0 (λ end w. (Ok (reply.Updated status another end), w)) (flag_in_area 4 w).1 (λ end.
    plain call.Update status (reply.Updated status another end) refl refl refl))
full_is g (call.GetInterval reference) status w =
    let c = call.GetInterval reference in
    follow_leads (Is c status) (number_in_area 0 8 w).0 _ (number_in_area 0 8 w).1 (λ counter.
    let w = (number_in_area 0 8 w).1 in
    follow_leads (Is c status) (number_in_area 8 8 w).0 _ (number_in_area 8 8 w).1 (λ resolution.
    let w = (number_in_area 8 8 w).1 in
    follow_leads (Is c status) (qualifier_in_area 16 w).0 _ (qualifier_in_area 16 w).1 (λ qualifier.
    plain c status (reply.Interval status counter resolution qualifier) refl refl refl)))
full_is g call.EnterInit status w = plain call.EnterInit status (reply.Plain status) refl refl refl
full_is g call.ExitInit status w = plain call.ExitInit status (reply.Plain status) refl refl refl
full_is g call.EnterEvent status w = plain call.EnterEvent status (reply.Plain status) refl refl refl
full_is g call.EnterStep status w = plain call.EnterStep status (reply.Plain status) refl refl refl
full_is g (call.SetClock reference) status w = plain (call.SetClock reference) status (reply.Plain status) refl refl refl
full_is g (call.SetBinary reference bytes) status w = plain (call.SetBinary reference bytes) status (reply.Plain status) refl refl refl
full_is g (call.DoStep from size) status w = plain (call.DoStep from size) status (reply.Plain status) refl refl refl
full_is g call.Terminate status w = plain call.Terminate status (reply.Plain status) refl refl refl
full_is g call.Free status w = plain call.Free status (reply.Plain status) refl refl refl

bare_is : (c : Call) (status : FmiStatus) → IsReply c status (bare_reply c status)
bare_is call.Instantiate status = plain call.Instantiate status (reply.Plain status) refl refl refl
bare_is call.EnterInit status = plain call.EnterInit status (reply.Plain status) refl refl refl
bare_is call.ExitInit status = plain call.ExitInit status (reply.Plain status) refl refl refl
bare_is call.EnterEvent status = plain call.EnterEvent status (reply.Plain status) refl refl refl
bare_is call.EnterStep status = plain call.EnterStep status (reply.Plain status) refl refl refl
bare_is (call.SetClock reference) status = plain (call.SetClock reference) status (reply.Plain status) refl refl refl
bare_is (call.SetBinary reference bytes) status = plain (call.SetBinary reference bytes) status (reply.Plain status) refl refl refl
bare_is (call.GetClock reference) status = plain (call.GetClock reference) status (reply.Clock status false) refl refl refl
bare_is (call.GetBinary reference) status = plain (call.GetBinary reference) status (reply.Data status []) refl refl refl
bare_is call.Update status = plain call.Update status (reply.Updated status false false) refl refl refl
bare_is (call.GetInterval reference) status = plain (call.GetInterval reference) status (bare_reply (call.GetInterval reference) status) refl refl refl
bare_is (call.DoStep from size) status = plain (call.DoStep from size) status (reply.Plain status) refl refl refl
bare_is call.Terminate status = plain call.Terminate status (reply.Plain status) refl refl refl
bare_is call.Free status = plain call.Free status (reply.Plain status) refl refl refl

-- ---- the whole exchange

-- a reply of its kind with bytes, and the bare one where its status isn't fine
record IsSound (c : Call) (r : Reply) : Type 0 where
  pub suits : IsTrue (is_suitable c r)
  pub bytes : AreBytes (bytes_in r)
  pub bare : (status : FmiStatus) → status_of r ≡ Some status → is_fine status ≡ false → r ≡ bare_reply c status

abbrev Sound : Call → Reply → Work → Type 0
Sound c r w = IsSound c r

same_status : (r : Reply) (one two : FmiStatus) → status_of r ≡ Some one → status_of r ≡ Some two → one ≡ two
same_status r one two e f = cc

full_sound : (c : Call) (status : FmiStatus) → is_fine status ≡ true → (r : Reply) → IsReply c status r → IsSound c r
full_sound c status fine r is = record {
  suits = is.suits;
  bytes = is.bytes;
  bare = λ other has poor.
      let e : other ≡ status = same_status r other status has is.has in
      let both : true ≡ false = sym fine ∙ (ap is_fine (sym e) ∙ poor) in
      cc both;
}

bare_sound : (c : Call) (status : FmiStatus) → IsSound c (bare_reply c status)
bare_sound c status = record {
  suits = (bare_is c status).suits;
  bytes = (bare_is c status).bytes;
  bare = λ other has poor.
      ap (bare_reply c) (same_status (bare_reply c status) status other (bare_is c status).has has);
}

-- what leads to one leads to the other
leads_on : {A : Type 0} (P Q : A → Work → Type 0) (r : Result A Broken) (w : Work) → ((x : A) → P x w → Q x w) → Leads P r w → Leads Q r w
leads_on P Q (Ok x) w f h = f x h
leads_on P Q (Err why) w f h = tt

if_sound : (fine : Bool) (g : Guest) (c : Call) (status : FmiStatus) (w : Work) → is_fine status ≡ fine → Leads (Sound c) (reply_if fine g c status w).0 (reply_if fine g c status w).1
if_sound true g c status w is =
    leads_on (Is c status) (Sound c) (full_reply g c status w).0 (full_reply g c status w).1 (λ r. full_sound c status is r) (full_is g c status w)
if_sound false g c status w is = bare_sound c status

exchange_sound : (g : Guest) (c : Call) (w : Work) → Leads (Sound c) (exchange g c w).0 (exchange g c w).1
unfolding exchange
exchange_sound g c w =
    follow_leads (Sound c) (prepares g c w).0 _ (prepares g c w).1 (λ prepared.
    let w = (prepares g c w).1 in
    follow_leads (Sound c) (status_by g c w).0 (λ status. reply_if (is_fine status) g c status) (status_by g c w).1 (λ status.
    if_sound (is_fine status) g c status (status_by g c w).1 refl))

broken_sound : (c : Call) (why : Broken) → IsSound c (reply.Broken why)
broken_sound c why = record {
  suits = refl;
  bytes = All-nil (λ b. b < 256);
  bare = λ status has poor. cc has;
}

replied : (c : Call) (r : Result Reply Broken) (w : Work) → Leads (Sound c) r w → IsSound c (reply_of r)
replied c (Ok r) w h = h
replied c (Err why) w h = broken_sound c why

answer_sound : (g : Guest) (c : Call) → IsSound c (answer g c).0
unfolding answer
answer_sound g c = replied c (exchange g c (work_of g)).0 (exchange g c (work_of g)).1 (exchange_sound g c (work_of g))

-- ---- the laws

pub reply_suits : (g : Guest) (c : Call) → IsTrue (is_suitable c (answer g c).0)
reply_suits g c = (answer_sound g c).suits

pub reply_is_bytes : (g : Guest) (c : Call) → AreBytes (bytes_in (answer g c).0)
reply_is_bytes g c = (answer_sound g c).bytes

pub reply_is_bare : (g : Guest) (c : Call) (status : FmiStatus) → status_of (answer g c).0 ≡ Some status → is_fine status ≡ false → (answer g c).0 ≡ bare_reply c status
reply_is_bare g c = (answer_sound g c).bare

pub phase_moves : (g : Guest) (c : Call) → (answer g c).1.phase ≡ next_phase g.phase c (answer g c).0
unfolding answer
phase_moves g c = refl
