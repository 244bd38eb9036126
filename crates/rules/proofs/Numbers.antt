-- No reason to refuse a call has the number 0, and no two have one number.
use Rattle.std.proofs.Common.{◌≡◌, ◌∙◌, ℕ, ◌<◌, cond, eqb, refl, sym, ap, lit<}
use Rattle.rules.specs.declared.Refusal.{Refusal}
use Rattle.rules.specs.declared.Refusal.TheVariants.{NotSound, Cores, Period, Cost, SlotsFull, RatesFull, Slot, JobPending, RowsFull, BeyondLastTick, BeforeClock, SegmentsShort, Core}
use Rattle.rules.specs.Numbers.{number_of}

pub number_some : (r : Refusal) → 0 < number_of r
unfolding number_of
number_some r =
    elim r as (λ v. 0 < number_of v) [
      | NotSound ↦ lit< tt
      | Cores ↦ lit< tt
      | Period ↦ lit< tt
      | Cost ↦ lit< tt
      | SlotsFull ↦ lit< tt
      | RatesFull ↦ lit< tt
      | Slot ↦ lit< tt
      | JobPending ↦ lit< tt
      | RowsFull ↦ lit< tt
      | BeyondLastTick ↦ lit< tt
      | BeforeClock ↦ lit< tt
      | SegmentsShort ↦ lit< tt
      | Core ↦ lit< tt
    ]

-- the reason of a number
abbrev pub numbered : ℕ → Refusal
numbered n =
    cond (eqb n 1) NotSound (cond (eqb n 2) Cores (cond (eqb n 3) Period (cond (eqb n 4) Cost (cond (eqb n 5) SlotsFull (cond (eqb n 6) RatesFull (cond (eqb n 7) Slot
    (cond (eqb n 8) JobPending (cond (eqb n 9) RowsFull (cond (eqb n 10) BeyondLastTick (cond (eqb n 11) BeforeClock (cond (eqb n 12) SegmentsShort Core)))))))))))

pub numbered_back : (r : Refusal) → numbered (number_of r) ≡ r
unfolding number_of
numbered_back r =
    elim r as (λ v. numbered (number_of v) ≡ v) [
      | NotSound ↦ refl
      | Cores ↦ refl
      | Period ↦ refl
      | Cost ↦ refl
      | SlotsFull ↦ refl
      | RatesFull ↦ refl
      | Slot ↦ refl
      | JobPending ↦ refl
      | RowsFull ↦ refl
      | BeyondLastTick ↦ refl
      | BeforeClock ↦ refl
      | SegmentsShort ↦ refl
      | Core ↦ refl
    ]

pub number_one : (r s : Refusal) → number_of r ≡ number_of s → r ≡ s
number_one r s e = sym (numbered_back r) ∙ (ap numbered e ∙ numbered_back s)
