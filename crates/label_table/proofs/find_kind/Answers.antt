-- Each arm by the row that its label finds; the last by failing every test.
use Rattle.std.proofs.Common.{arith}
use Rattle.std.proofs.lemmas.Bool.Decides.{nat_tests}
use Rattle.labels.specs.Table.{row_of}
use Rattle.label_table.proofs.Rows.{hit}
use Rattle.label_table.proofs.find_kind.Goals as goal

pub returns-in-146 : goal.returns-in-146
returns-in-146 c =
    hit c.in-146.is

pub returns-in-28 : goal.returns-in-28
returns-in-28 c =
    hit c.in-28.is

pub returns-in-123 : goal.returns-in-123
returns-in-123 c =
    hit c.in-123.is

pub returns-in-124 : goal.returns-in-124
returns-in-124 c =
    hit c.in-124.is

pub returns-in-27 : goal.returns-in-27
returns-in-27 c =
    hit c.in-27.is

pub returns-in-30 : goal.returns-in-30
returns-in-30 c =
    hit c.in-30.is

pub returns-in-105 : goal.returns-in-105
returns-in-105 c =
    hit c.in-105.is

pub returns-in-106 : goal.returns-in-106
returns-in-106 c =
    hit c.in-106.is

pub returns-in-107 : goal.returns-in-107
returns-in-107 c =
    hit c.in-107.is

pub returns-in-108 : goal.returns-in-108
returns-in-108 c =
    hit c.in-108.is

pub returns-in-109 : goal.returns-in-109
returns-in-109 c =
    hit c.in-109.is

pub returns-in-96 : goal.returns-in-96
returns-in-96 c =
    hit c.in-96.is

pub returns-in-97 : goal.returns-in-97
returns-in-97 c =
    hit c.in-97.is

pub returns-in-98 : goal.returns-in-98
returns-in-98 c =
    hit c.in-98.is

pub returns-in-99 : goal.returns-in-99
returns-in-99 c =
    hit c.in-99.is

pub returns-in_default : goal.returns-in_default
unfolding row_of
returns-in_default c = grind (arith, nat_tests)
