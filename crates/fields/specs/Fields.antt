-- The job and the header as the code holds them: their numbers as the lists that the layouts speak of. Definitions only.
use Rattle.std.specs.Prelude.{List, [], ◌∷◌, ℤ, pos}
use Rattle.order.specs.Job.{Job as OrderJob}
use Rattle.packed.specs.Packed.{job_of}
use Rattle.fields.specs.declared.Job.{Job}
use Rattle.fields.specs.declared.Header.{Header}

-- The seven numbers of a job, in the sequence of the layout.
abbrev pub fields_of : Job → List ℤ
fields_of j = j.number ∷ j.pack ∷ j.critical ∷ j.weight ∷ j.ready ∷ j.length ∷ j.deadline ∷ []

-- The job that they mean.
abbrev pub as_job : Job → OrderJob
as_job j = job_of (fields_of j)

-- The three numbers of a header.
abbrev pub header_fields : Header → List ℤ
header_fields h = pos h.count ∷ h.t0 ∷ pos h.kind ∷ []
