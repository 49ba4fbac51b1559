-- The certificate or the condition that a text is, or its first fault (docs/CERTIFICATES.md, "Faults").
use Rattle.std.specs.Prelude.{ℕ, List, Result, Ok, Err}
use Rattle.bst_meaning.specs.declared.condition.Cond.{Cond}
use Rattle.name_table.specs.declared.style.Style.{Style}
use Rattle.cert_format.specs.Certs.{cert_read}
use Rattle.cert_format.specs.Conditions.{cond_read}
use Rattle.cert_format.specs.Faults.{fault_of}
use Rattle.cert_format.specs.declared.cert.Cert.{Cert}
use Rattle.cert_format.specs.declared.fault.CertFault.{CertFault}
use Rattle.cert_format.specs.declared.stop.Stop.{Stop}

-- what was read, or the fault of the text
abbrev pub told : {A : Type 0} → List ℕ → Result A Stop → Result A CertFault
told source (Ok value) = Ok value
told source (Err stop) = Err (fault_of source stop)

-- the condition that a text is, or its first fault
abbrev pub cond_of : Style → List ℕ → Result Cond CertFault
cond_of style source = told source (cond_read style.names source)

-- the certificate that a text is, or its first fault
abbrev pub cert_of : Style → List ℕ → Result Cert CertFault
cert_of style source = told source (cert_read style source)
