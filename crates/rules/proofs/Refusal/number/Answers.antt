use Rattle.std.proofs.Common.{◌≡◌, ◌+◌, refl}
use Rattle.rules.specs.Numbers.{number_of}
use Rattle.rules.specs.declared.Refusal.TheVariants.{NotSound, Cores, Period, Cost, SlotsFull, RatesFull, Slot, JobPending, RowsFull, BeyondLastTick, BeforeClock, SegmentsShort, Core}
use Rattle.rules.proofs.Refusal.number.Goals as goal

-- each variant, by its tag
pub returns : goal.returns
unfolding number_of
returns c =
    elim c.args.self as (λ r. denote.Enum.Declared.tag_of Rattle.rules.specs.contracts.Refusal.the_type r + 1 ≡ number_of r) [
      | NotSound ↦ refl
      | Cores ↦ refl
      | Period ↦ refl
      | Cost ↦ refl
      | SlotsFull ↦ refl
      | RatesFull ↦ refl
      | Slot ↦ refl
      | JobPending ↦ refl
      | RowsFull ↦ refl
      | BeyondLastTick ↦ refl
      | BeforeClock ↦ refl
      | SegmentsShort ↦ refl
      | Core ↦ refl
    ]
