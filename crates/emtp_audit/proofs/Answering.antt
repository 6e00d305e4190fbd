-- What an answer of one call says of the answer of another.
use Rattle.std.proofs.Common.{Result, Ok, Err, OnOk}
use Rattle.std.specs.Prelude.{IfErr}
use Rattle.emtp_audit.specs.held.Walk.{OnDiffers}
use Rattle.emtp_audit.specs.declared.differs.AuditFault.{AuditFault}
use Rattle.emtp_audit.specs.declared.differs.AuditFault.TheVariants.{Differs as Difference, NoMemory}
use Rattle.emtp_audit.specs.declared.differs.Differs.{Differs}

pub on_ok : {T E : Type 0} (result : Result T E) (P Q : Type 0) → (P → Q) → OnOk result P → OnOk result Q
on_ok (Ok value) P Q then h = then h
on_ok (Err fault) P Q then h = tt

pub if_err : {T E : Type 0} (result : Result T E) (P Q : E → Type 0) → ((fault : E) → P fault → Q fault) → IfErr result P → IfErr result Q
if_err (Ok value) P Q then h = tt
if_err (Err fault) P Q then h = then fault h

pub on_differs : (fault : AuditFault) (P Q : Differs → Type 0) → ((differs : Differs) → P differs → Q differs) → OnDiffers fault P → OnDiffers fault Q
on_differs (Difference differs) P Q then h = then differs h
on_differs NoMemory P Q then h = tt
