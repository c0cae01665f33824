use Rattle.bus_log.proofs.told.told_line.Goals as goal

pub returns-in-Req : goal.returns-in-Req
returns-in-Req c = rw c.in-Req.is c.framed_line.ensures

pub returns-in-Full : goal.returns-in-Full
returns-in-Full c = rw c.in-Full.is c.framed_line-in-Full.ensures

pub returns-in-Drop : goal.returns-in-Drop
returns-in-Drop c = rw c.in-Drop.is c.framed_line-in-Drop.ensures

pub returns-in-Start : goal.returns-in-Start
returns-in-Start c = rw c.in-Start.is c.framed_line-in-Start.ensures

pub returns-in-Rate : goal.returns-in-Rate
returns-in-Rate c = rw c.in-Rate.is c.value_line.ensures

pub returns-in-FdRate : goal.returns-in-FdRate
returns-in-FdRate c = rw c.in-FdRate.is c.value_line-in-FdRate.ensures

pub returns-in-Status : goal.returns-in-Status
returns-in-Status c = rw c.in-Status.is c.level_line.ensures

pub returns-in-State : goal.returns-in-State
returns-in-State c = rw c.in-State.is c.level_line-in-State.ensures

pub returns-in-FormatError : goal.returns-in-FormatError
returns-in-FormatError c = rw c.in-FormatError.is c.bytes_line.ensures

pub returns-in-Bad : goal.returns-in-Bad
returns-in-Bad c = rw c.in-Bad.is c.bytes_line-in-Bad.ensures
