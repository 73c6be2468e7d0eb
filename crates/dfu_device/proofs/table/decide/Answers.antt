use Rattle.dfu_device.proofs.PlanRows.{allowed_in_equal_mode}
use Rattle.dfu_device.proofs.table.decide.Goals as goal

pub returns-in-AppIdle-clause-possible : goal.returns-in-AppIdle-clause-possible
returns-in-AppIdle-clause-possible c = allowed_in_equal_mode c.args.profile.now c.args.request c.in_app_idle.result c.in-AppIdle.is
    c.in_app_idle.ensures.possible

pub returns-in-AppDetach-clause-possible : goal.returns-in-AppDetach-clause-possible
returns-in-AppDetach-clause-possible c = allowed_in_equal_mode c.args.profile.now c.args.request c.in_app_detach.result c.in-AppDetach.is
    (c.in_app_detach.ensures.possible c.args.profile.now)

pub returns-in-DfuIdle-clause-possible : goal.returns-in-DfuIdle-clause-possible
returns-in-DfuIdle-clause-possible c = allowed_in_equal_mode c.args.profile.now c.args.request c.in_dfu_idle.result c.in-DfuIdle.is
    c.in_dfu_idle.ensures.possible

pub returns-in-DownloadSync-clause-possible : goal.returns-in-DownloadSync-clause-possible
returns-in-DownloadSync-clause-possible c =
    allowed_in_equal_mode c.args.profile.now c.args.request c.in_download_sync.result c.in-DownloadSync.is
    c.in_download_sync.ensures.possible

pub returns-in-DownloadSyncWritten-clause-possible : goal.returns-in-DownloadSyncWritten-clause-possible
returns-in-DownloadSyncWritten-clause-possible c =
    allowed_in_equal_mode c.args.profile.now c.args.request c.in_download_sync_written.result c.in-DownloadSyncWritten.is
    (c.in_download_sync_written.ensures.possible c.args.profile.now)

pub returns-in-DownloadIdle-clause-possible : goal.returns-in-DownloadIdle-clause-possible
returns-in-DownloadIdle-clause-possible c =
    allowed_in_equal_mode c.args.profile.now c.args.request c.in_download_idle.result c.in-DownloadIdle.is
    c.in_download_idle.ensures.possible

pub returns-in-ManifestSync-clause-possible : goal.returns-in-ManifestSync-clause-possible
returns-in-ManifestSync-clause-possible c =
    allowed_in_equal_mode c.args.profile.now c.args.request c.in_manifest_sync.result c.in-ManifestSync.is
    c.in_manifest_sync.ensures.possible

pub returns-in-ManifestSyncComplete-clause-possible : goal.returns-in-ManifestSyncComplete-clause-possible
returns-in-ManifestSyncComplete-clause-possible c =
    allowed_in_equal_mode c.args.profile.now c.args.request c.in_manifest_sync_complete.result c.in-ManifestSyncComplete.is
    (c.in_manifest_sync_complete.ensures.possible c.args.profile.now)

pub returns-in-UploadIdle-clause-possible : goal.returns-in-UploadIdle-clause-possible
returns-in-UploadIdle-clause-possible c = allowed_in_equal_mode c.args.profile.now c.args.request c.in_upload_idle.result c.in-UploadIdle.is
    c.in_upload_idle.ensures.possible

pub returns-in-Error-clause-possible : goal.returns-in-Error-clause-possible
returns-in-Error-clause-possible c = allowed_in_equal_mode c.args.profile.now c.args.request c.in_error.result c.in-Error.is
    (c.in_error.ensures.possible c.args.profile.now)
