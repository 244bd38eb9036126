-- The listing of document 01, 'The drill program', by the definitions of specs/: its jobs, some grains counted, and two promises at work.
-- The first two are computed; the others are `allowance-held` for the second job, and `cut_independence` for a finer cut.
use mathlib.Core.Path.{◌≡◌, refl}
use mathlib.Core.List.{List, [], ◌∷◌, Memᴰ}
use Prim.Native.Nat.{ℕ}
use native.Mathlib.Omega.{arith}
use Rattle.rules.specs.Calls.{Call, declare, release, advance, opened}
use Rattle.rules.specs.History.{after, record_of, held_at, stamped}
use Rattle.rules.proofs.Checked.{rules}
use Rattle.rules.proofs.Kept.{opened-sound}
use Rattle.history.specs.Jobs.{Job, job_at, jobs_by, jobs_of, held_by, cores_held, grains_in, grains_held}
use Rattle.history.proofs.Promises.{cut_independence, allowance-held}

abbrev listing : List Call
listing = declare 10 5000 ∷ (declare 4 1200 ∷ (release 0 ∷ (advance 1 320 ∷ (release 1 ∷ (advance 10 320 ∷ (advance 10 320 ∷ []))))))

abbrev first : Job
first = record { slot = 0; released = 0; deadline = 10; allowance = 5000 }

abbrev second : Job
second = record { slot = 1; released = 1; deadline = 5; allowance = 1200 }

listing_jobs : jobs_of 4096 (opened 1) listing ≡ first ∷ (second ∷ [])
unfolding rules jobs_of jobs_by job_at
listing_jobs = refl

-- `SG 0 0 1000 2777`, `SG 0 1 2777 3977`
listing_counted : grains_held (record_of 4096 (opened 1) listing) 1 2770 2790 ≡ 13
unfolding rules grains_held grains_in cores_held held_by
listing_counted = refl

listing_clock : (after 4096 (opened 1) listing).clock ≡ 10
unfolding rules
listing_clock = refl

pub listing_held : grains_held (record_of 4096 (opened 1) listing) 1 1000 5000 ≡ 1200
listing_held =
    let listed : Memᴰ second (jobs_of 4096 (opened 1) listing) = rw listing_jobs (mathlib.Core.List.Memᴰ.tail (mathlib.Core.List.Memᴰ.head refl)) in
    allowance-held 4096 (opened 1) (opened-sound 1 (omega arith) (omega arith)) listing second listed (omega (arith, listing_clock))

-- the same calls at the same ticks, with time cut otherwise
abbrev finer : List Call
finer = declare 10 5000 ∷ (declare 4 1200 ∷ (release 0 ∷ (advance 1 320 ∷ (release 1 ∷ (advance 3 320 ∷ (advance 4 320 ∷ (advance 8 320 ∷ (advance 7 320 ∷ (advance 10 320 ∷ [])))))))))

finer_stamps : stamped 4096 (opened 1) finer ≡ stamped 4096 (opened 1) listing
unfolding rules
finer_stamps = refl

finer_clock : (after 4096 (opened 1) finer).clock ≡ 10
unfolding rules
finer_clock = refl

pub finer_held : (core grain : ℕ) → held_at (record_of 4096 (opened 1) finer) core grain ≡ held_at (record_of 4096 (opened 1) listing) core grain
finer_held = (cut_independence 4096 (opened 1) (opened-sound 1 (omega arith) (omega arith)) finer listing finer_stamps (omega (arith, finer_clock, listing_clock))).0
