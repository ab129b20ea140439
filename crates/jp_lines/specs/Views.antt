-- What the program's tasks and requests stand for.
use Rattle.std.specs.Prelude.{map}
use Rattle.jp_tree.specs.Views.{expr_of, query_of}
use Rattle.jp_lines.specs.Request.{ColumnsBy, Job, KeepBy, Request, SelectBy}
use Rattle.jp_lines.specs.Task.{Keep, Select, Tabulate, Task}
use Rattle.jp_lines.specs.declared.task.Columns as columns
use Rattle.jp_lines.specs.declared.task.Job as job
use Rattle.jp_lines.specs.declared.task.Request as request
use Rattle.jp_lines.specs.declared.task.Request.TheVariants as requests
use Rattle.jp_lines.specs.declared.task.Selection as selection
use Rattle.jp_lines.specs.declared.task.Task as task
use Rattle.jp_lines.specs.declared.task.Task.TheVariants as tasks

-- the task of a selection
abbrev pub selection_task : selection.Selection → Task
selection_task selected = Select selected.wanted selected.extent (query_of selected.query.now.query)

-- the task of columns
abbrev pub columns_task : columns.Columns → Task
columns_task made = Tabulate made.style (map (λ c. query_of c.query) made.queries.now)

abbrev pub task_of : task.Task → Task
task_of (tasks.Select selected) = selection_task selected
task_of (tasks.Keep keeping) = Keep (expr_of keeping.filter.now.expr)
task_of (tasks.Tabulate made) = columns_task made

abbrev pub request_of : request.Request → Request
request_of (requests.SelectBy wanted extent query) = SelectBy wanted extent query.now
request_of (requests.KeepBy text) = KeepBy text.now
request_of (requests.ColumnsBy style named texts) =
    ColumnsBy style named (map (λ t. t.now) texts.items)

abbrev pub job_of : job.Job → Job
job_of asked = record {
  options = asked.options;
  request = request_of asked.request;
  inputs = map (λ t. t.now) asked.inputs.items;
}
