-- What holds of all calls: any two outcomes that a contract allows coincide; a sound table stays sound, and an opened one is; a refusal
-- changes nothing. A planner's lists have 320 words; here that is the premise `wide`.
use mathlib.Core.Path.{◌≡◌, refl, ap, sym, ◌∙◌}
use mathlib.Core.Bool.{true}
use mathlib.Core.List.{List}
use native.Mathlib.Nat.{not-suc-le-zero}
use Prim.Native.Nat.{ℕ, zero, suc, ◌≤◌, ◌<◌}
use native.Mathlib.Omega.{arith}
use lib.ListN.{length, drop}
use Rattle.rules.specs.Station.{Table, share_words}
use Rattle.rules.specs.Sound.{Sound}
use Rattle.rules.specs.Calls.{Call, refusal, refused, refusals, open_refusals, opened, done, accepted, step}
use Rattle.rules.specs.Advance.{Holding, held, idle_until, idle}
use Rattle.rules.specs.Held.{Planner, table_of, is_sound_in, list_words}
use Rattle.rules.proofs.Floor.{by_bool}
use Rattle.rules.proofs.Sound.{sound-to}
use Rattle.rules.proofs.Kept.{step-sound, opened-sound}
use Rattle.rules.proofs.Steps.{accepted-number}
use Rattle.wrap.specs.declared.look.Holder.{Holder}
use Rattle.wrap.specs.declared.look.Holder.TheVariants.{Held, IdleUntil, Idle}
use Rattle.wrap.specs.Holding.{Told, holding_by, told_by}
use Rattle.std.proofs.Common.{Result, Ok, Err}
use Rattle.rules.specs.declared.Refusal.{Refusal}
use Rattle.rules.specs.Numbers.{number_of}
use Rattle.rules.proofs.Numbers.{number_some, number_one, numbered, numbered_back}
use Rattle.calls.specs.declared.Done.{Done}
use Rattle.calls.specs.Called.{did, answer_of, Left, leaves, unchanged, held_as, called, opened_by, opening}
use Rattle.calls.proofs.Joint.{agrees, sound_there}
use Rattle.calls.proofs.Called.{called-unsound, called-refused, called-done}
use Rattle.calls.proofs.Round.{still-sound}

-- no two answers read alike in document 01's numbers
pub answer_one : (a b : Result Done Refusal) → answer_of a ≡ answer_of b → a ≡ b
unfolding answer_of refusal
answer_one (Ok d) (Ok e) same = let x = ap (λ r. r.value) same in let y = ap (λ r. r.count) same in let both : did d.value d.count ≡ did e.value e.count = rw (x, y) in both
answer_one (Ok d) (Err r) same = let x : 0 ≡ number_of r = ap (λ r. r.number) same in absurd (omega (arith, number_some r))
answer_one (Err r) (Ok d) same = let x : number_of r ≡ 0 = ap (λ r. r.number) same in absurd (omega (arith, number_some r))
answer_one (Err r) (Err q) same = ap Err (number_one r q (ap (λ r. r.number) same))

-- what two outcomes have in common: the planner, every word lent, and the answer
pub record Same (p q : Planner) (v w b c : List ℕ) (x y : Result Done Refusal) : Type 0 where
  pub planner : p ≡ q
  pub words : v ≡ w
  pub buffer : b ≡ c
  pub answer : x ≡ y

-- Any two outcomes that a contract allows coincide: `l` is what the contract of any call but holder says.
pub coincide : (l : Left) {p q : Planner} {v w b c : List ℕ} {x y : Result Done Refusal} → leaves p v b x ≡ l → leaves q w c y ≡ l → Same p q v w b c x y
unfolding leaves
coincide l {x = x} {y} one other =
    let e = one ∙ sym other in
    record { planner = ap (λ l. l.planner) e; words = ap (λ l. l.words) e; buffer = ap (λ l. l.buffer) e; answer = answer_one x y (ap (λ l. l.answer) e) }

-- the answer that was told
back_to : Holding → Holder
back_to (held slot until) = Held slot until
back_to (idle_until grain) = IdleUntil grain
back_to idle = Idle

back_of : ℕ → Holding → Result Holder Refusal
back_of zero h = Ok (back_to h)
back_of (suc n) h = Err (numbered (suc n))

back_none : (n : ℕ) (h : Holding) → 0 < n → back_of n h ≡ Err (numbered n)
unfolding back_of
back_none zero h some = absurd (not-suc-le-zero some)
back_none (suc n) h some = refl

held_back : (h : Holder) → back_to (holding_by h) ≡ h
unfolding back_to
held_back (Held slot until) = refl
held_back (IdleUntil grain) = refl
held_back Idle = refl

back : (h : Result Holder Refusal) → back_of (told_by h).number (told_by h).holding ≡ h
unfolding told_by back_of
back (Ok h) = ap Ok (held_back h)
back (Err r) = back_none (number_of r) idle (number_some r) ∙ ap Err (numbered_back r)

pub holder_coincide : (t : Told) {r s : Result Holder Refusal} → told_by r ≡ t → told_by s ≡ t → r ≡ s
holder_coincide t {r} {s} one other = sym (back r) ∙ ap (λ t. back_of t.number t.holding) (one ∙ sym other) ∙ back s

pub sound_of : (p : Planner) (words : List ℕ) → is_sound_in p words ≡ true → Sound (table_of p words)
sound_of p words ok = sound-to (table_of p words) (sound_there p words ok)

-- Every call leaves a sound table sound.
pub stays_sound : (p : Planner) (words buffer : List ℕ) (call : Call) → is_sound_in p words ≡ true
    → is_sound_in (called p words buffer call).planner (called p words buffer call).words ≡ true
unfolding called held_as
stays_sound p words buffer call ok =
    rw ok (still-sound (step (length words) (table_of p words) call).table (step-sound (length words) (table_of p words) call (sound_of p words ok)) (drop share_words words))

-- A refusal changes nothing.
by_number {ℓ} : {C : Type ℓ} (n : ℕ) → (n ≡ 0 → C) → ((m : ℕ) → n ≡ suc m → C) → C
by_number zero none some = none refl
by_number (suc m) none some = some m refl

same_number : (n : ℕ) (p : Planner) (words buffer : List ℕ) {l : Left} → unchanged n p words buffer ≡ l → l ≡ unchanged l.answer.number p words buffer
unfolding unchanged refusal
same_number n p words buffer {l} e = sym e ∙ ap (λ m. unchanged m p words buffer) (ap (λ k. k.answer.number) e)

done-number : (words buffer : List ℕ) (t : Table) (call : Call) {l : Left} → held_as words buffer (accepted t call) ≡ l → l.answer.number ≡ 0
unfolding held_as
done-number words buffer t call e = sym (ap (λ k. k.answer.number) e) ∙ accepted-number t call

pub refused-keeps : (p : Planner) (words buffer : List ℕ) (call : Call) → length p.lists ≡ list_words → ((called p words buffer call).answer.number ≡ 0 → ⊥)
    → called p words buffer call ≡ unchanged (called p words buffer call).answer.number p words buffer
refused-keeps p words buffer call wide not_done =
    by_bool (is_sound_in p words)
    (λ ok. by_number (refused (refusals (length words) (table_of p words) call))
    (λ e. absurd (not_done (done-number words buffer (table_of p words) call (called-done ok (agrees p words wide ok) buffer call e))))
    (λ n e. same_number (suc n) p words buffer (called-refused ok (agrees p words wide ok) buffer call n e)))
    (λ bad. same_number 1 p words buffer (called-unsound p words buffer call bad))

-- An opened table is sound.
pub opens_sound : (p : Planner) (words : List ℕ) (cores : ℕ) → 1 ≤ cores → cores ≤ 16 → refused (open_refusals (length words) cores) ≡ 0
    → is_sound_in (opening p words cores).planner (opening p words cores).words ≡ true
unfolding opening opened_by held_as done
opens_sound p words cores some few none = rw none (still-sound (opened cores) (opened-sound cores some few) (drop share_words words))
