use Rattle.jp_flat.specs.Flat.{shown}
use Rattle.jp_flat.proofs.Planted.{decimal-means}
use Rattle.jp_flat.proofs.of_tree.put_decimal.Goals as goal

pub returns-clause-means : goal.returns-clause-means
returns-clause-means c =
    λ n. decimal-means n (shown c.spared_number.new.tables) c.in_ok-span.span c.args.number c.requires
    c.in_ok-span.ensures.spelled
