-- For `rows_are_computed`: its goals.
use Rattle.linux_beside.proofs.Rows1.{all_rows1}
use Rattle.linux_beside.proofs.Rows2.{all_rows2}
use Rattle.linux_beside.proofs.Rows3.{all_rows3}
use Rattle.linux_beside.proofs.Rows4.{all_rows4}
use Rattle.linux_beside.proofs.Rows5.{all_rows5}
use Rattle.linux_beside.proofs.Rows6.{all_rows6}
use Rattle.linux_beside.proofs.Rows7.{all_rows7}
use Rattle.linux_beside.proofs.rows.rows_are_computed.Goals as goal

pub returns-clause-rows1 : goal.returns-clause-rows1
returns-clause-rows1 c = all_rows1

pub returns-clause-rows2 : goal.returns-clause-rows2
returns-clause-rows2 c = all_rows2

pub returns-clause-rows3 : goal.returns-clause-rows3
returns-clause-rows3 c = all_rows3

pub returns-clause-rows4 : goal.returns-clause-rows4
returns-clause-rows4 c = all_rows4

pub returns-clause-rows5 : goal.returns-clause-rows5
returns-clause-rows5 c = all_rows5

pub returns-clause-rows6 : goal.returns-clause-rows6
returns-clause-rows6 c = all_rows6

pub returns-clause-rows7 : goal.returns-clause-rows7
returns-clause-rows7 c = all_rows7
