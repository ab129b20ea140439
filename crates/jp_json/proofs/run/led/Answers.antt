use Rattle.std.proofs.Common.{inl, inr}
use Rattle.jp_json.proofs.Leading.{value-blanks, item-blanks, member-blanks, name-blanks, colon-blanks, after-blanks}
use Rattle.jp_json.proofs.run.led.Goals as goal

pub returns-in-Value : goal.returns-in-Value
returns-in-Value c =
    elim c.in-Value.is [
      | inl is ↦ rw is (value-blanks c.args.bytes.now c.blanks.result c.blanks.ensures)
      | inr others ↦
          elim others [
            | inl is ↦ rw is (item-blanks c.args.bytes.now c.blanks.result c.blanks.ensures)
            | inr others ↦
                elim others [
                  | inl is ↦ rw is (member-blanks c.args.bytes.now c.blanks.result c.blanks.ensures)
                  | inr others ↦
                      elim others [
                        | inl is ↦ rw is (name-blanks c.args.bytes.now c.blanks.result c.blanks.ensures)
                        | inr others ↦
                            elim others [
                              | inl is ↦ rw is (colon-blanks c.args.bytes.now c.blanks.result c.blanks.ensures)
                              | inr is ↦ rw is (after-blanks c.args.bytes.now c.blanks.result c.blanks.ensures)
                            ]
                      ]
                ]
          ]
    ]
