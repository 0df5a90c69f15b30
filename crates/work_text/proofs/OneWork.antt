-- A text stands for one work, or has one first fault.
use Rattle.std.proofs.Common.{◌≡◌, ℕ, List}
use Rattle.std.specs.Prelude.{Ok, Err, Result}
use Rattle.snap_work.specs.declared.faults.WorkFault.{WorkFault}
use Rattle.snap_work.specs.Works.{Work}
use Rattle.work_text.specs.Reads.{Reads, IsWork, IsFirstWorkFault}
use Rattle.work_text.proofs.OneOf.{ok_same}

abbrev pub OneReading : Type 0
OneReading = (text : List ℕ) (r s : Result Work WorkFault) → Reads text r → Reads text s → r ≡ s

err_same : (f g : WorkFault) → ◌≡◌ {A = Result Work WorkFault} (Err f) (Err g) → f ≡ g
err_same f g e = cc

ok_or_not : (w : Work) (f : WorkFault) → ◌≡◌ {A = Result Work WorkFault} (Ok w) (Err f) → ⊥
ok_or_not w f e = cc

pub works_same : (law : OneReading) (text : List ℕ) (v w : Work) → IsWork text v → IsWork text w → v ≡ w
works_same law text v w h k = ok_same v w (law text (Ok v) (Ok w) h k)

pub faults_same : (law : OneReading) (text : List ℕ) (f g : WorkFault) → IsFirstWorkFault text f → IsFirstWorkFault text g → f ≡ g
faults_same law text f g h k = err_same f g (law text (Err f) (Err g) h k)

pub work_or_fault : (law : OneReading) (text : List ℕ) (f : WorkFault) (w : Work) → IsFirstWorkFault text f → ¬ IsWork text w
work_or_fault law text f w h k = ok_or_not w f (law text (Ok w) (Err f) k h)
