-- Which fault of a row that of an evaluation becomes. The conversion cites it.
use Rattle.jp_evaluate.specs.declared.evaluation_fault.EvaluationFault.{EvaluationFault}
use Rattle.jp_evaluate.specs.declared.evaluation_fault.EvaluationFault.TheVariants as evaluation
use Rattle.jp_cells.specs.declared.fault.RowFault.{RowFault}
use Rattle.jp_cells.specs.declared.fault.RowFault.TheVariants.{NoMemory, StepsUsedUp}

abbrev pub row_fault_of : EvaluationFault → RowFault
row_fault_of evaluation.NoMemory = NoMemory
row_fault_of evaluation.StepsUsedUp = StepsUsedUp
