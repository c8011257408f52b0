-- The data of an adaptor.
use Rattle.vx_drive.specs.declared.adaptors.ScanAdaptor.{ScanAdaptor}
use Rattle.vx_drive.specs.AdaptorData.{AdaptorData}

abbrev pub adaptor_data : ScanAdaptor → AdaptorData
adaptor_data adaptor = record { scan = adaptor.scan; first = adaptor.first; asked = adaptor.asked; held = adaptor.held; state = adaptor.state }
