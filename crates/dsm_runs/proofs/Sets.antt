-- What a processor is has one proof at most, so that a type may keep it as a fact of its own.
use Rattle.std.proofs.Props.{props}
use Rattle.dsm_words.specs.Script.{Act}
use Rattle.dsm_protocol.specs.Jobs.{Job, Job-set'}
use Rattle.dsm_protocol.specs.Processors.{Processor}

pub Act-set : IsSet Act
Act-set = hlevel props

pub Job-set : IsSet Job
Job-set = Job-set' Act-set (hlevel props) (hlevel props) (hlevel props) (hlevel props)

pub Processor-set : IsSet Processor
Processor-set = hlevel (props, Job-set)
