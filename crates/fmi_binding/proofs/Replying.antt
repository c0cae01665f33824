-- Replies, as pieces.
use Rattle.std.specs.Prelude.{◌≡◌, ℕ, Bool, true, false, Result, Ok, Err, refl}
use Rattle.std.proofs.Common.{sym, subst}
use Rattle.fmi_states.specs.declared.status.FmiStatus.{FmiStatus}
use Rattle.fmi_states.specs.declared.call.Call.{Call}
use Rattle.fmi_states.specs.declared.call.Call.TheVariants as call
use Rattle.fmi_states.specs.declared.reply.Reply.{Reply}
use Rattle.fmi_states.specs.declared.reply.Reply.TheVariants.{Plain, Updated, Interval}
use Rattle.fmi_states.specs.declared.reply.Broken.{Broken}
use Rattle.binding_specs.specs.Guests.{Guest}
use Rattle.binding_specs.specs.Pieces.{Piece, ◌>>=◌, gives}
use Rattle.binding_specs.specs.Exchanges.{number_in_area, flag_in_area, qualifier_in_area, is_fine, bare_reply, full_reply, reply_if}
use Rattle.binding_laws.specs.Words.{is_instantiation}
use Rattle.fmi_binding.specs.Coming.{Held, Comes}
use Rattle.fmi_binding.proofs.Coming.{comes_on, comes_broken, gives_comes}

-- a piece, and then a reply of what it comes to
module _ {A : Type 0} (p : Piece A) (reply : A → Reply) (h : Held) where
  pub replied : (x : A) → Comes p h h (Ok x) → Comes (p >>= λ y. gives (reply y)) h h (Ok (reply x))
  replied x first = comes_on p (λ y. gives (reply y)) h h h x (Ok (reply x)) first (gives_comes (reply x) h)

  pub not_replied : (why : Broken) → Comes p h h (Err why) → Comes (p >>= λ y. gives (reply y)) h h (Err why)
  not_replied why first = comes_broken p (λ y. gives (reply y)) h h why first

pub not_updated : (g : Guest) (status : FmiStatus) (h : Held) (why : Broken) → Comes (flag_in_area 0) h h (Err why)
    → Comes (full_reply g call.Update status) h h (Err why)
not_updated g status h why first =
    comes_broken (flag_in_area 0) (λ another. flag_in_area 4 >>= λ end. gives (Updated status another end)) h h why first

pub updated_behind : (g : Guest) (status : FmiStatus) (another : Bool) (h : Held) (r : Result Reply Broken)
    → Comes (flag_in_area 0) h h (Ok another)
    → Comes (flag_in_area 4 >>= λ end. gives (Updated status another end)) h h r → Comes (full_reply g call.Update status) h h r
updated_behind g status another h r first second =
    comes_on (flag_in_area 0) (λ another. flag_in_area 4 >>= λ end. gives (Updated status another end)) h h h another r first second

module _ (g : Guest) (reference : ℕ) (status : FmiStatus) (h : Held) where
  pub no_counter : (why : Broken) → Comes (number_in_area 0 8) h h (Err why)
      → Comes (full_reply g (call.GetInterval reference) status) h h (Err why)
  no_counter why first =
      comes_broken (number_in_area 0 8) (λ counter. number_in_area 8 8 >>= λ resolution. qualifier_in_area 16 >>= λ qualifier. gives
      (Interval status counter resolution qualifier)) h h why first

  pub interval_behind : (counter : ℕ) (r : Result Reply Broken) → Comes (number_in_area 0 8) h h (Ok counter)
      → Comes (number_in_area 8 8 >>= λ resolution. qualifier_in_area 16 >>= λ qualifier. gives
      (Interval status counter resolution qualifier)) h h r
      → Comes (full_reply g (call.GetInterval reference) status) h h r
  interval_behind counter r first second =
      comes_on (number_in_area 0 8) (λ counter. number_in_area 8 8 >>= λ resolution. qualifier_in_area 16 >>= λ qualifier. gives
      (Interval status counter resolution qualifier)) h h h counter r first second

  pub no_resolution : (counter : ℕ) (why : Broken) → Comes (number_in_area 8 8) h h (Err why)
      → Comes (number_in_area 8 8 >>= λ resolution. qualifier_in_area 16 >>= λ qualifier. gives
      (Interval status counter resolution qualifier)) h h (Err why)
  no_resolution counter why first = comes_broken (number_in_area 8 8)
      (λ resolution. qualifier_in_area 16 >>= λ qualifier. gives (Interval status counter resolution qualifier)) h h why first

  pub resolved : (counter resolution : ℕ) (r : Result Reply Broken) → Comes (number_in_area 8 8) h h (Ok resolution)
      → Comes (qualifier_in_area 16 >>= λ qualifier. gives (Interval status counter resolution qualifier)) h h r
      → Comes (number_in_area 8 8 >>= λ resolution. qualifier_in_area 16 >>= λ qualifier. gives
      (Interval status counter resolution qualifier)) h h r
  resolved counter resolution r first second = comes_on (number_in_area 8 8)
      (λ resolution. qualifier_in_area 16 >>= λ qualifier. gives (Interval status counter resolution qualifier)) h h h resolution r first
      second

pub plain_reply : (g : Guest) (c : Call) (status : FmiStatus) (h : Held) → is_instantiation c ≡ false
    → ((reference : ℕ) → c ≡ call.GetClock reference → ⊥) → ((reference : ℕ) → c ≡ call.GetBinary reference → ⊥) → (c ≡ call.Update → ⊥)
    → ((reference : ℕ) → c ≡ call.GetInterval reference → ⊥)
    → Comes (full_reply g c status) h h (Ok (Plain status))
plain_reply g call.Instantiate status h other nc nb nu ni = cc other
plain_reply g (call.SetBinary reference bytes) status h other nc nb nu ni = gives_comes (Plain status) h
plain_reply g call.EnterInit status h other nc nb nu ni = gives_comes (Plain status) h
plain_reply g call.ExitInit status h other nc nb nu ni = gives_comes (Plain status) h
plain_reply g call.EnterEvent status h other nc nb nu ni = gives_comes (Plain status) h
plain_reply g call.EnterStep status h other nc nb nu ni = gives_comes (Plain status) h
plain_reply g (call.SetClock reference) status h other nc nb nu ni = gives_comes (Plain status) h
plain_reply g (call.GetClock reference) status h other nc nb nu ni = absurd (nc reference refl)
plain_reply g (call.GetBinary reference) status h other nc nb nu ni = absurd (nb reference refl)
plain_reply g call.Update status h other nc nb nu ni = absurd (nu refl)
plain_reply g (call.GetInterval reference) status h other nc nb nu ni = absurd (ni reference refl)
plain_reply g (call.DoStep from size) status h other nc nb nu ni = gives_comes (Plain status) h
plain_reply g call.Terminate status h other nc nb nu ni = gives_comes (Plain status) h
plain_reply g call.Free status h other nc nb nu ni = gives_comes (Plain status) h

pub by_fine : (g : Guest) (c : Call) (status : FmiStatus) (h : Held) (r : Result Reply Broken) → is_fine status ≡ true
    → Comes (full_reply g c status) h h r → Comes (reply_if (is_fine status) g c status) h h r
by_fine g c status h r fine full = subst (λ b. Comes (reply_if b g c status) h h r) (sym fine) full

pub by_bare : (g : Guest) (c : Call) (status : FmiStatus) (h : Held) → is_fine status ≡ false
    → Comes (reply_if (is_fine status) g c status) h h (Ok (bare_reply c status))
by_bare g c status h fine = subst (λ b. Comes (reply_if b g c status) h h (Ok (bare_reply c status))) (sym fine)
    (gives_comes (bare_reply c status) h)
